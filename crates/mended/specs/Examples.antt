-- Mended schedules: the answer as plain numbers, and the words of both results, none if refused (§14.8, §14.16).
use Rattle.refusal.specs.Refusal.{Verdict}
use Rattle.std.specs.Prelude.{ℕ, ◌≡◌, List, [], ◌∷◌, Err, Ok}
use Rattle.lending.specs.Call.{answer_of}
use Rattle.mended.specs.Mend.{mend_verdict, mended_words}
use Rattle.mended.specs.Changes.{changes}
use Rattle.mended.specs.Call.{mend_core, plain_mend}

pub record Row : Type 0 where
  pub net : List ℕ
  pub sheet : List ℕ
  pub answer : List ℕ
  pub mended : List ℕ
  pub listed : List ℕ

abbrev pub row : List ℕ → List ℕ → List ℕ → List ℕ → List ℕ → Row
row net sheet answer mended listed = record { net = net; sheet = sheet; answer = answer; mended = mended; listed = listed }

-- §14.2
abbrev pub net_a : List ℕ
net_a = 1 ∷ 2 ∷ 2 ∷ 1 ∷ 2 ∷ 1 ∷ 1 ∷ []

abbrev pub two : List ℕ
two = 2 ∷ 3 ∷ 0 ∷ 3 ∷ 5 ∷ 1 ∷ 0 ∷ 1 ∷ []

abbrev pub table : List Row
table =
    -- an accepted schedule is its own mended one, and nothing changes
    row net_a two (0 ∷ 0 ∷ 0 ∷ 8 ∷ 1 ∷ 0 ∷ []) two (0 ∷ [])
    -- no count is given: 1 at node 1, key 1 × 1 + 0
    ∷ row net_a (2 ∷ 2 ∷ 0 ∷ 3 ∷ 1 ∷ 0 ∷ []) (0 ∷ 0 ∷ 0 ∷ 8 ∷ 3 ∷ 0 ∷ []) two (1 ∷ 1 ∷ 1 ∷ [])
    -- a given 0 that is right is no change, and its entry goes; a count above the limit is an ordinary stale count
    ∷ row net_a (2 ∷ 4 ∷ 0 ∷ 3 ∷ 4 ∷ 5 ∷ 1 ∷ 0 ∷ 0 ∷ 4000000000 ∷ []) (0 ∷ 0 ∷ 0 ∷ 8 ∷ 3 ∷ 0 ∷ []) two (1 ∷ 1 ∷ 1 ∷ [])
    -- a count that becomes 0 is listed with 0
    ∷ row net_a (2 ∷ 4 ∷ 0 ∷ 3 ∷ 4 ∷ 5 ∷ 1 ∷ 0 ∷ 7 ∷ 1 ∷ []) (0 ∷ 0 ∷ 0 ∷ 8 ∷ 3 ∷ 0 ∷ []) two (1 ∷ 0 ∷ 0 ∷ [])
    -- both counts are stale
    ∷ row net_a (2 ∷ 4 ∷ 0 ∷ 3 ∷ 4 ∷ 5 ∷ 1 ∷ 0 ∷ 7 ∷ 0 ∷ []) (0 ∷ 0 ∷ 0 ∷ 8 ∷ 5 ∷ 0 ∷ []) two (2 ∷ 0 ∷ 1 ∷ 0 ∷ 1 ∷ [])
    -- a schedule that the schedule check refuses by 10
    ∷ row (1 ∷ 2 ∷ 3 ∷ 1 ∷ 2 ∷ 4 ∷ 1 ∷ 1 ∷ 16777216 ∷ []) (2 ∷ 4 ∷ 0 ∷ 3 ∷ 4 ∷ 5 ∷ 1 ∷ 0 ∷ 1 ∷ 16777217 ∷ []) (0 ∷ 0 ∷ 0 ∷ 10 ∷ 3 ∷ 0 ∷ [])
    (2 ∷ 4 ∷ 0 ∷ 3 ∷ 4 ∷ 5 ∷ 1 ∷ 0 ∷ 16777216 ∷ 16777217 ∷ []) (1 ∷ 0 ∷ 16777216 ∷ [])
    -- two places (§14.1): keys go by node and then by place
    ∷ row (2 ∷ 3 ∷ 4 ∷ 2 ∷ 5 ∷ 6 ∷ 9 ∷ 1 ∷ 2 ∷ 1 ∷ 2 ∷ []) (3 ∷ 5 ∷ 0 ∷ 4 ∷ 8 ∷ 11 ∷ 13 ∷ 1 ∷ 2 ∷ 0 ∷ 1 ∷ 2 ∷ []) (0 ∷ 0 ∷ 0 ∷ 12 ∷ 5 ∷ 0 ∷ [])
    (3 ∷ 5 ∷ 0 ∷ 4 ∷ 8 ∷ 11 ∷ 14 ∷ 1 ∷ 2 ∷ 0 ∷ 1 ∷ 2 ∷ []) (2 ∷ 4 ∷ 5 ∷ 0 ∷ 2 ∷ [])
    -- 9 at an arc; 8 is asked of counts too
    ∷ row net_a (2 ∷ 3 ∷ 0 ∷ 3 ∷ 5 ∷ 2 ∷ 0 ∷ 1 ∷ []) (9 ∷ 1 ∷ 0 ∷ 0 ∷ 0 ∷ 0 ∷ []) [] []
    ∷ row net_a (2 ∷ 3 ∷ 0 ∷ 3 ∷ 6 ∷ 1 ∷ 0 ∷ 1 ∷ []) (8 ∷ 1 ∷ 2 ∷ 0 ∷ 0 ∷ 0 ∷ []) [] []
    ∷ row net_a (1 ∷ 0 ∷ []) (11 ∷ 3 ∷ 0 ∷ 0 ∷ 0 ∷ 0 ∷ []) [] []
    ∷ row (1 ∷ 3 ∷ 3 ∷ 1 ∷ 2 ∷ 3 ∷ 1 ∷ 1 ∷ 1 ∷ []) (2 ∷ 3 ∷ 0 ∷ 4 ∷ 7 ∷ 1 ∷ 0 ∷ 0 ∷ []) (12 ∷ 3 ∷ 1 ∷ 0 ∷ 0 ∷ 0 ∷ []) [] []
    ∷ row (1 ∷ 2 ∷ 3 ∷ 1 ∷ 3 ∷ 4 ∷ 1 ∷ 1 ∷ 1 ∷ []) (1 ∷ 2 ∷ 1 ∷ 2 ∷ 0 ∷ 0 ∷ []) (13 ∷ 3 ∷ 0 ∷ 0 ∷ 0 ∷ 0 ∷ []) [] []
    ∷ row net_a (3 ∷ 4 ∷ 0 ∷ 3 ∷ 4 ∷ 7 ∷ 1 ∷ 0 ∷ 1 ∷ 0 ∷ []) (16 ∷ 3 ∷ 2 ∷ 0 ∷ 0 ∷ 0 ∷ []) [] []
    ∷ row (1 ∷ 2 ∷ 3 ∷ 1 ∷ 2 ∷ 3 ∷ 1 ∷ 1 ∷ 1 ∷ []) (2 ∷ 3 ∷ 0 ∷ 3 ∷ 5 ∷ 1 ∷ 1 ∷ 0 ∷ []) (17 ∷ 3 ∷ 1 ∷ 0 ∷ 0 ∷ 0 ∷ []) [] []
    -- a schedule that the schedule check refuses by 14: transition 1 takes two
    ∷ row (1 ∷ 2 ∷ 2 ∷ 1 ∷ 2 ∷ 2 ∷ 1 ∷ []) two (25 ∷ 0 ∷ 0 ∷ 0 ∷ 0 ∷ 0 ∷ []) [] []
    -- a source that puts one leads back to the root, which would hold more each time
    ∷ row net_a (1 ∷ 1 ∷ 0 ∷ 0 ∷ []) (25 ∷ 0 ∷ 0 ∷ 0 ∷ 0 ∷ 0 ∷ []) [] []
    -- the start is at the limit, and transition 0 puts one more
    ∷ row (1 ∷ 2 ∷ 3 ∷ 1 ∷ 2 ∷ 4 ∷ 1 ∷ 1 ∷ 1000000000 ∷ []) (2 ∷ 2 ∷ 0 ∷ 3 ∷ 1 ∷ 0 ∷ []) (25 ∷ 0 ∷ 0 ∷ 0 ∷ 0 ∷ 0 ∷ []) [] []
    -- §14.16, row by row: counts that are not looked at may be above a capacity
    ∷ row (1 ∷ 2 ∷ 3 ∷ 1 ∷ 2 ∷ 5 ∷ 1 ∷ 1 ∷ 1 ∷ []) (2 ∷ 4 ∷ 0 ∷ 3 ∷ 4 ∷ 5 ∷ 1 ∷ 0 ∷ 7 ∷ 9 ∷ []) (0 ∷ 0 ∷ 0 ∷ 8 ∷ 5 ∷ 0 ∷ []) two (2 ∷ 0 ∷ 1 ∷ 0 ∷ 1 ∷ [])
    -- the capacity is as much as transition 0 puts, and one less than that
    ∷ row (1 ∷ 2 ∷ 3 ∷ 1 ∷ 2 ∷ 5 ∷ 2 ∷ 2 ∷ 2 ∷ []) (2 ∷ 2 ∷ 0 ∷ 3 ∷ 1 ∷ 0 ∷ []) (0 ∷ 0 ∷ 0 ∷ 8 ∷ 3 ∷ 0 ∷ []) (2 ∷ 3 ∷ 0 ∷ 3 ∷ 5 ∷ 1 ∷ 0 ∷ 2 ∷ []) (1 ∷ 1 ∷ 2 ∷ [])
    ∷ row (1 ∷ 2 ∷ 3 ∷ 1 ∷ 2 ∷ 5 ∷ 2 ∷ 2 ∷ 1 ∷ []) (2 ∷ 2 ∷ 0 ∷ 3 ∷ 1 ∷ 0 ∷ []) (25 ∷ 0 ∷ 0 ∷ 0 ∷ 0 ∷ 0 ∷ []) [] []
    -- 1 is taken and put back, with room for one more, and from a full place, where it is not enabled: nothing is deducted
    ∷ row (1 ∷ 3 ∷ 5 ∷ 1 ∷ 2 ∷ 3 ∷ 4 ∷ 7 ∷ 1 ∷ 1 ∷ 1 ∷ 1 ∷ 2 ∷ []) (2 ∷ 3 ∷ 0 ∷ 4 ∷ 5 ∷ 1 ∷ 1 ∷ 0 ∷ []) (0 ∷ 0 ∷ 0 ∷ 10 ∷ 3 ∷ 0 ∷ []) (2 ∷ 4 ∷ 0 ∷ 4 ∷ 5 ∷ 7 ∷ 1 ∷ 1 ∷ 0 ∷ 1 ∷ []) (1 ∷ 1 ∷ 1 ∷ [])
    ∷ row (1 ∷ 3 ∷ 5 ∷ 1 ∷ 2 ∷ 3 ∷ 4 ∷ 7 ∷ 1 ∷ 1 ∷ 1 ∷ 1 ∷ 1 ∷ []) (2 ∷ 3 ∷ 0 ∷ 4 ∷ 5 ∷ 1 ∷ 1 ∷ 0 ∷ []) (25 ∷ 0 ∷ 0 ∷ 0 ∷ 0 ∷ 0 ∷ []) [] []
    -- a start below the capacity, at it, and above it; 26 comes before 5
    ∷ row (1 ∷ 2 ∷ 4 ∷ 1 ∷ 2 ∷ 4 ∷ 5 ∷ 1 ∷ 1 ∷ 1 ∷ 2 ∷ []) (2 ∷ 2 ∷ 0 ∷ 3 ∷ 1 ∷ 0 ∷ []) (0 ∷ 0 ∷ 0 ∷ 10 ∷ 5 ∷ 0 ∷ []) (2 ∷ 4 ∷ 0 ∷ 3 ∷ 4 ∷ 5 ∷ 1 ∷ 0 ∷ 1 ∷ 2 ∷ []) (2 ∷ 0 ∷ 1 ∷ 1 ∷ 2 ∷ [])
    ∷ row (1 ∷ 2 ∷ 4 ∷ 1 ∷ 2 ∷ 4 ∷ 5 ∷ 1 ∷ 1 ∷ 1 ∷ 1 ∷ []) (2 ∷ 2 ∷ 0 ∷ 3 ∷ 1 ∷ 0 ∷ []) (25 ∷ 0 ∷ 0 ∷ 0 ∷ 0 ∷ 0 ∷ []) [] []
    ∷ row (1 ∷ 2 ∷ 4 ∷ 1 ∷ 2 ∷ 4 ∷ 5 ∷ 1 ∷ 1 ∷ 2 ∷ 1 ∷ []) (2 ∷ 2 ∷ 0 ∷ 3 ∷ 1 ∷ 0 ∷ []) (26 ∷ 2 ∷ 0 ∷ 0 ∷ 0 ∷ 0 ∷ []) [] []
    ∷ row (1 ∷ 1 ∷ 3 ∷ 0 ∷ 2 ∷ 3 ∷ 1 ∷ 2 ∷ 1 ∷ []) (1 ∷ 1 ∷ 0 ∷ 0 ∷ []) (26 ∷ 2 ∷ 0 ∷ 0 ∷ 0 ∷ 0 ∷ []) [] []
    ∷ []

-- ---- what the definitions give

abbrev pub words_where : Verdict → List ℕ → List ℕ
words_where (Ok tt) words = words
words_where (Err r) words = []

abbrev pub computed : List ℕ → List ℕ → Row
computed net sheet =
    let v = mend_verdict net sheet in
    row net sheet (plain_mend (answer_of (mend_core net sheet) v)) (words_where v (mended_words net sheet)) (words_where v (changes net sheet))

abbrev pub computed_all : List Row → List Row
computed_all [] = []
computed_all (r ∷ rs) = computed r.net r.sheet ∷ computed_all rs

abbrev pub Mended : Type 0
Mended = computed_all table ≡ table
