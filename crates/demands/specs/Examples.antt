-- The proved table (§13.7): nets and schedules, what every check of them answers, and what every call of the minimal form writes.
use Rattle.std.specs.Prelude.{ℕ, ◌+◌, ◌*◌, ◌≤◌, ◌≡◌, List, [], ◌∷◌, length, take}
use Rattle.judge.specs.Answer.{plain_check, CheckAnswer}
use Rattle.refusal.specs.Limits.{scratch_limit, most_entries}
use Rattle.schedule.specs.Calls.{CheckDone}
use Rattle.minimal.specs.Form.{plain_form, FormDone, FormAnswer}
use Rattle.lending.specs.Demands.{own}

-- a net, a schedule, the check's answer as plain numbers, and the words of the minimal form, none if the schedule is refused
pub record Row : Type 0 where
  pub net : List ℕ
  pub sheet : List ℕ
  pub answer : List ℕ
  pub form : List ℕ

abbrev pub row : List ℕ → List ℕ → List ℕ → List ℕ → Row
row net sheet answer form = record { net = net; sheet = sheet; answer = answer; form = form }

-- §14.2
abbrev pub net_a : List ℕ
net_a = 1 ∷ 2 ∷ 2 ∷ 1 ∷ 2 ∷ 1 ∷ 1 ∷ []

abbrev pub two : List ℕ
two = 2 ∷ 3 ∷ 0 ∷ 3 ∷ 5 ∷ 1 ∷ 0 ∷ 1 ∷ []

-- §14.3, row by row; the third is §14.4
abbrev pub starred : List Row
starred =
    row (1 ∷ 1 ∷ 0 ∷ []) (1 ∷ 1 ∷ 0 ∷ 0 ∷ []) (0 ∷ 0 ∷ 0 ∷ 1 ∷ 1 ∷ 1 ∷ []) (1 ∷ 1 ∷ 0 ∷ 0 ∷ [])
    ∷ row net_a two (0 ∷ 0 ∷ 0 ∷ 2 ∷ 2 ∷ 1 ∷ []) two
    ∷ row net_a (4 ∷ 6 ∷ 0 ∷ 3 ∷ 4 ∷ 7 ∷ 9 ∷ 11 ∷ 1 ∷ 2 ∷ 3 ∷ 0 ∷ 1 ∷ 1 ∷ []) (0 ∷ 0 ∷ 0 ∷ 4 ∷ 4 ∷ 2 ∷ []) two
    ∷ row net_a (1 ∷ 0 ∷ []) (11 ∷ 3 ∷ 0 ∷ 0 ∷ 0 ∷ 0 ∷ []) []
    ∷ row net_a (2 ∷ 2 ∷ 0 ∷ 3 ∷ 1 ∷ 0 ∷ []) (15 ∷ 1 ∷ 0 ∷ 0 ∷ 0 ∷ 0 ∷ []) []
    ∷ row net_a (3 ∷ 4 ∷ 0 ∷ 3 ∷ 4 ∷ 7 ∷ 1 ∷ 0 ∷ 1 ∷ 1 ∷ []) (16 ∷ 3 ∷ 2 ∷ 0 ∷ 0 ∷ 0 ∷ []) []
    ∷ row (1 ∷ 3 ∷ 3 ∷ 1 ∷ 2 ∷ 3 ∷ 1 ∷ 1 ∷ 1 ∷ []) (2 ∷ 3 ∷ 0 ∷ 4 ∷ 7 ∷ 1 ∷ 0 ∷ 1 ∷ []) (12 ∷ 3 ∷ 1 ∷ 0 ∷ 0 ∷ 0 ∷ []) []
    ∷ row (1 ∷ 3 ∷ 3 ∷ 1 ∷ 2 ∷ 3 ∷ 1 ∷ 1 ∷ 1 ∷ []) (2 ∷ 4 ∷ 0 ∷ 4 ∷ 5 ∷ 7 ∷ 1 ∷ 0 ∷ 0 ∷ 1 ∷ []) (0 ∷ 0 ∷ 0 ∷ 2 ∷ 3 ∷ 1 ∷ []) (2 ∷ 4 ∷ 0 ∷ 4 ∷ 5 ∷ 7 ∷ 1 ∷ 0 ∷ 0 ∷ 1 ∷ [])
    ∷ row (1 ∷ 2 ∷ 3 ∷ 1 ∷ 2 ∷ 3 ∷ 1 ∷ 1 ∷ 1 ∷ []) (2 ∷ 3 ∷ 0 ∷ 3 ∷ 5 ∷ 1 ∷ 1 ∷ 1 ∷ []) (17 ∷ 3 ∷ 1 ∷ 0 ∷ 0 ∷ 0 ∷ []) []
    ∷ row (1 ∷ 2 ∷ 2 ∷ 1 ∷ 2 ∷ 2 ∷ 1 ∷ []) two (14 ∷ 1 ∷ 1 ∷ 0 ∷ 0 ∷ 0 ∷ []) []
    ∷ row (1 ∷ 2 ∷ 3 ∷ 1 ∷ 3 ∷ 4 ∷ 1 ∷ 1 ∷ 1 ∷ []) (1 ∷ 2 ∷ 1 ∷ 2 ∷ 0 ∷ 1 ∷ []) (13 ∷ 3 ∷ 0 ∷ 0 ∷ 0 ∷ 0 ∷ []) []
    ∷ row (1 ∷ 2 ∷ 3 ∷ 1 ∷ 2 ∷ 4 ∷ 1 ∷ 1 ∷ 16777216 ∷ []) (2 ∷ 4 ∷ 0 ∷ 3 ∷ 4 ∷ 5 ∷ 1 ∷ 0 ∷ 16777216 ∷ 16777217 ∷ [])
    (0 ∷ 0 ∷ 0 ∷ 2 ∷ 2 ∷ 1 ∷ []) (2 ∷ 4 ∷ 0 ∷ 3 ∷ 4 ∷ 5 ∷ 1 ∷ 0 ∷ 16777216 ∷ 16777217 ∷ [])
    ∷ row (1 ∷ 2 ∷ 3 ∷ 1 ∷ 2 ∷ 4 ∷ 1 ∷ 1 ∷ 16777216 ∷ []) (2 ∷ 4 ∷ 0 ∷ 3 ∷ 4 ∷ 5 ∷ 1 ∷ 0 ∷ 16777216 ∷ 16777216 ∷ []) (15 ∷ 1 ∷ 0 ∷ 0 ∷ 0 ∷ 0 ∷ []) []
    ∷ []

-- ---- what a row says of the calls

pub record Holds (r : Row) : Type 0 where
  pub checked : (s s' : List ℕ) (a : CheckAnswer) → scratch_limit ≤ length s → CheckDone r.net r.sheet s a s' → plain_check a ≡ r.answer
  pub formed : (out s out' s' : List ℕ) (a : FormAnswer) → scratch_limit ≤ length s → 2 + 2 * most_entries ≤ length out → FormDone r.net r.sheet out s a out' s'
      → take (own (plain_form a) 0) out' ≡ r.form

abbrev pub AllHold : List Row → Type 0
AllHold [] = Unit
AllHold (r ∷ rs) = Holds r × AllHold rs

-- every starred row holds
abbrev pub Starred : Type 0
Starred = AllHold starred

-- ---- further rows

-- §14.7: transitions 1 and 2 take 1 each from the place that 0 fills, and 3 takes 2 from it
abbrev pub net_arbitrated : List ℕ
net_arbitrated = 1 ∷ 4 ∷ 4 ∷ 1 ∷ 2 ∷ 3 ∷ 4 ∷ 1 ∷ 1 ∷ 2 ∷ 1 ∷ []

-- §14.1, which has two places, so that keys of counts differ by place, and the same with a wrong last word; a key at the limit of §3.4; and §14.7, with a node 1 that
-- offers 1 and 2, and with one that offers only 1
abbrev pub further : List Row
further =
    row (2 ∷ 3 ∷ 4 ∷ 2 ∷ 5 ∷ 6 ∷ 9 ∷ 1 ∷ 2 ∷ 1 ∷ 2 ∷ []) (3 ∷ 5 ∷ 0 ∷ 4 ∷ 8 ∷ 11 ∷ 14 ∷ 1 ∷ 2 ∷ 0 ∷ 1 ∷ 2 ∷ []) (0 ∷ 0 ∷ 0 ∷ 3 ∷ 3 ∷ 1 ∷ []) (3 ∷ 5 ∷ 0 ∷ 4 ∷ 8 ∷ 11 ∷ 14 ∷ 1 ∷ 2 ∷ 0 ∷ 1 ∷ 2 ∷ [])
    ∷ row (2 ∷ 3 ∷ 4 ∷ 2 ∷ 5 ∷ 6 ∷ 9 ∷ 1 ∷ 2 ∷ 1 ∷ 2 ∷ []) (3 ∷ 5 ∷ 0 ∷ 4 ∷ 8 ∷ 11 ∷ 14 ∷ 1 ∷ 2 ∷ 0 ∷ 1 ∷ 1 ∷ []) (15 ∷ 1 ∷ 1 ∷ 0 ∷ 0 ∷ 0 ∷ []) []
    ∷ row net_a (2 ∷ 3 ∷ 0 ∷ 3 ∷ 6 ∷ 1 ∷ 0 ∷ 1 ∷ []) (8 ∷ 1 ∷ 2 ∷ 0 ∷ 0 ∷ 0 ∷ []) []
    ∷ row net_arbitrated (2 ∷ 4 ∷ 0 ∷ 5 ∷ 6 ∷ 9 ∷ 1 ∷ 0 ∷ 0 ∷ 1 ∷ []) (12 ∷ 3 ∷ 1 ∷ 0 ∷ 0 ∷ 0 ∷ []) []
    ∷ row net_arbitrated (2 ∷ 3 ∷ 0 ∷ 5 ∷ 9 ∷ 1 ∷ 0 ∷ 1 ∷ []) (0 ∷ 0 ∷ 0 ∷ 2 ∷ 2 ∷ 1 ∷ []) (2 ∷ 3 ∷ 0 ∷ 5 ∷ 9 ∷ 1 ∷ 0 ∷ 1 ∷ [])
    ∷ []

abbrev pub FurtherRows : Type 0
FurtherRows = AllHold further

-- §14.16, row by row: capacities
abbrev pub capped : List Row
capped =
    -- a place filled to its capacity and drained
    row (1 ∷ 2 ∷ 3 ∷ 1 ∷ 2 ∷ 5 ∷ 1 ∷ 1 ∷ 1 ∷ []) (2 ∷ 3 ∷ 0 ∷ 3 ∷ 5 ∷ 1 ∷ 0 ∷ 1 ∷ []) (0 ∷ 0 ∷ 0 ∷ 2 ∷ 2 ∷ 1 ∷ []) (2 ∷ 3 ∷ 0 ∷ 3 ∷ 5 ∷ 1 ∷ 0 ∷ 1 ∷ [])
    -- twice the capacity is put, with a target that has this count and with one that has not: 27 comes before 15
    ∷ row (1 ∷ 2 ∷ 3 ∷ 1 ∷ 2 ∷ 5 ∷ 1 ∷ 2 ∷ 1 ∷ []) (2 ∷ 3 ∷ 0 ∷ 3 ∷ 5 ∷ 1 ∷ 0 ∷ 2 ∷ []) (27 ∷ 1 ∷ 0 ∷ 0 ∷ 0 ∷ 0 ∷ []) []
    ∷ row (1 ∷ 2 ∷ 3 ∷ 1 ∷ 2 ∷ 5 ∷ 1 ∷ 2 ∷ 1 ∷ []) (2 ∷ 3 ∷ 0 ∷ 3 ∷ 5 ∷ 1 ∷ 0 ∷ 1 ∷ []) (27 ∷ 1 ∷ 0 ∷ 0 ∷ 0 ∷ 0 ∷ []) []
    -- more is taken than there is, and more is put than there is room for: 14 comes before 27
    ∷ row (1 ∷ 2 ∷ 4 ∷ 1 ∷ 2 ∷ 3 ∷ 5 ∷ 2 ∷ 1 ∷ 3 ∷ 3 ∷ []) (2 ∷ 3 ∷ 0 ∷ 3 ∷ 5 ∷ 1 ∷ 0 ∷ 1 ∷ []) (14 ∷ 1 ∷ 1 ∷ 0 ∷ 0 ∷ 0 ∷ []) []
    -- 1 is taken from a full place and put back, which is refused, since nothing is deducted; with room for one more it is only a loop
    ∷ row (1 ∷ 2 ∷ 4 ∷ 1 ∷ 2 ∷ 3 ∷ 5 ∷ 1 ∷ 1 ∷ 1 ∷ 1 ∷ []) (2 ∷ 3 ∷ 0 ∷ 3 ∷ 5 ∷ 1 ∷ 1 ∷ 1 ∷ []) (27 ∷ 1 ∷ 1 ∷ 0 ∷ 0 ∷ 0 ∷ []) []
    ∷ row (1 ∷ 2 ∷ 4 ∷ 1 ∷ 2 ∷ 3 ∷ 5 ∷ 1 ∷ 1 ∷ 1 ∷ 2 ∷ []) (2 ∷ 3 ∷ 0 ∷ 3 ∷ 5 ∷ 1 ∷ 1 ∷ 1 ∷ []) (17 ∷ 3 ∷ 1 ∷ 0 ∷ 0 ∷ 0 ∷ []) []
    -- a node whose count is above the capacity and whose arc puts nothing there: that is no fault, but the node is not reached
    ∷ row (1 ∷ 2 ∷ 3 ∷ 1 ∷ 2 ∷ 5 ∷ 1 ∷ 1 ∷ 1 ∷ []) (3 ∷ 5 ∷ 0 ∷ 3 ∷ 5 ∷ 7 ∷ 8 ∷ 1 ∷ 0 ∷ 1 ∷ 1 ∷ 2 ∷ []) (16 ∷ 3 ∷ 2 ∷ 0 ∷ 0 ∷ 0 ∷ []) []
    -- a start above the capacity; and a start at the capacity, so that the source has no room
    ∷ row (1 ∷ 2 ∷ 4 ∷ 1 ∷ 2 ∷ 4 ∷ 5 ∷ 1 ∷ 1 ∷ 2 ∷ 1 ∷ []) (1 ∷ 2 ∷ 0 ∷ 2 ∷ 0 ∷ 2 ∷ []) (26 ∷ 2 ∷ 0 ∷ 0 ∷ 0 ∷ 0 ∷ []) []
    ∷ row (1 ∷ 2 ∷ 4 ∷ 1 ∷ 2 ∷ 4 ∷ 5 ∷ 1 ∷ 1 ∷ 1 ∷ 1 ∷ []) (1 ∷ 2 ∷ 0 ∷ 2 ∷ 0 ∷ 1 ∷ []) (27 ∷ 1 ∷ 0 ∷ 0 ∷ 0 ∷ 0 ∷ []) []
    -- one member of a choice set has room, and another has not
    ∷ row (1 ∷ 3 ∷ 5 ∷ 1 ∷ 2 ∷ 3 ∷ 5 ∷ 7 ∷ 1 ∷ 1 ∷ 1 ∷ 1 ∷ 1 ∷ []) (2 ∷ 4 ∷ 0 ∷ 4 ∷ 5 ∷ 7 ∷ 1 ∷ 0 ∷ 1 ∷ 1 ∷ []) (27 ∷ 1 ∷ 2 ∷ 0 ∷ 0 ∷ 0 ∷ []) []
    -- count, put and capacity at the limit
    ∷ row (1 ∷ 1 ∷ 3 ∷ 1 ∷ 2 ∷ 3 ∷ 1000000000 ∷ 1000000000 ∷ 1000000000 ∷ []) (1 ∷ 2 ∷ 0 ∷ 1 ∷ 0 ∷ 1000000000 ∷ []) (27 ∷ 1 ∷ 0 ∷ 0 ∷ 0 ∷ 0 ∷ []) []
    ∷ []

abbrev pub CappedRows : Type 0
CappedRows = AllHold capped

-- §14.5: merging by lists alone would leave six nodes
abbrev pub net_q : List ℕ
net_q = 4 ∷ 6 ∷ 10 ∷ 8 ∷ 10 ∷ 12 ∷ 17 ∷ 18 ∷ 21 ∷ 24 ∷ 29 ∷ 35 ∷ 50 ∷ 1 ∷ 1 ∷ 1 ∷ 1 ∷ 1 ∷ 1 ∷ 1 ∷ 1 ∷ 1 ∷ 1 ∷ []

-- numbered depth first
abbrev pub nine : List ℕ
nine =
    9 ∷ 24 ∷ 0 ∷ 1 ∷ 8 ∷ 16 ∷ 18 ∷ 19 ∷ 27 ∷ 35 ∷ 36 ∷ 37 ∷ 45 ∷ 53 ∷ 56 ∷ 58 ∷ 60 ∷ 63 ∷ 64 ∷ 69 ∷ 70 ∷ 73 ∷ 75 ∷ 77 ∷ 82 ∷ 87
    ∷ 1 ∷ 2 ∷ 3 ∷ 6 ∷ 4 ∷ 5 ∷ 3 ∷ 3 ∷ 7 ∷ 8 ∷ 6 ∷ 6 ∷ 1 ∷ 1 ∷ 1 ∷ 1 ∷ 1 ∷ 1 ∷ 1 ∷ 1 ∷ 1 ∷ 1 ∷ 1 ∷ 1 ∷ []

abbrev pub nine_form : List ℕ
nine_form =
    9 ∷ 24 ∷ 0 ∷ 1 ∷ 8 ∷ 16 ∷ 18 ∷ 19 ∷ 24 ∷ 25 ∷ 33 ∷ 41 ∷ 45 ∷ 53 ∷ 56 ∷ 58 ∷ 60 ∷ 63 ∷ 64 ∷ 69 ∷ 74 ∷ 77 ∷ 79 ∷ 81 ∷ 82 ∷ 87
    ∷ 1 ∷ 2 ∷ 3 ∷ 4 ∷ 5 ∷ 6 ∷ 7 ∷ 8 ∷ 3 ∷ 3 ∷ 4 ∷ 4 ∷ 1 ∷ 1 ∷ 1 ∷ 1 ∷ 1 ∷ 1 ∷ 1 ∷ 1 ∷ 1 ∷ 1 ∷ 1 ∷ 1 ∷ []

abbrev pub Nine : Type 0
Nine = Holds (row net_q nine (0 ∷ 0 ∷ 0 ∷ 9 ∷ 12 ∷ 3 ∷ []) nine_form)
