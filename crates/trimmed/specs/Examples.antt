-- Trimmed schedules: the answer as plain numbers, and the words of both results, none if refused.
use Rattle.refusal.specs.Refusal.{Verdict}
use Rattle.std.specs.Prelude.{ℕ, ◌≡◌, List, [], ◌∷◌, Err, Ok}
use Rattle.graph.specs.Readable.{words_reply}
use Rattle.lending.specs.Call.{answer_of}
use Rattle.trimmed.specs.Trim.{trimmed_words, kept_list}
use Rattle.trimmed.specs.Call.{trim_core, plain_trim}

pub record Row : Type 0 where
  pub net : List ℕ
  pub sheet : List ℕ
  pub answer : List ℕ
  pub trimmed : List ℕ
  pub listed : List ℕ

abbrev pub row : List ℕ → List ℕ → List ℕ → List ℕ → List ℕ → Row
row net sheet answer trimmed listed = record { net = net; sheet = sheet; answer = answer; trimmed = trimmed; listed = listed }

-- §14.2
abbrev pub net_a : List ℕ
net_a = 1 ∷ 2 ∷ 2 ∷ 1 ∷ 2 ∷ 1 ∷ 1 ∷ []

abbrev pub two : List ℕ
two = 2 ∷ 3 ∷ 0 ∷ 3 ∷ 5 ∷ 1 ∷ 0 ∷ 1 ∷ []

abbrev pub table : List Row
table =
    -- an accepted schedule comes back, with the list 0, 1
    row net_a two (0 ∷ 0 ∷ 0 ∷ 8 ∷ 2 ∷ 0 ∷ []) two (0 ∷ 1 ∷ [])
    -- refused only by 16, at node 1, which leads to node 2: accepted without node 1
    ∷ row net_a (3 ∷ 4 ∷ 0 ∷ 2 ∷ 5 ∷ 8 ∷ 2 ∷ 2 ∷ 0 ∷ 1 ∷ []) (0 ∷ 0 ∷ 0 ∷ 8 ∷ 2 ∷ 0 ∷ []) two (0 ∷ 2 ∷ [])
    -- the same with a wrong count at node 1
    ∷ row net_a (3 ∷ 5 ∷ 0 ∷ 2 ∷ 5 ∷ 7 ∷ 8 ∷ 2 ∷ 2 ∷ 0 ∷ 4 ∷ 1 ∷ []) (0 ∷ 0 ∷ 0 ∷ 8 ∷ 2 ∷ 0 ∷ []) two (0 ∷ 2 ∷ [])
    -- a cycle that is not reached, and node 3, to which only the cycle leads
    ∷ row net_a (4 ∷ 4 ∷ 0 ∷ 2 ∷ 3 ∷ 4 ∷ 0 ∷ 2 ∷ 3 ∷ 1 ∷ []) (0 ∷ 0 ∷ 0 ∷ 4 ∷ 1 ∷ 0 ∷ []) (1 ∷ 1 ∷ 0 ∷ 0 ∷ []) (0 ∷ [])
    -- a search meets 0, 3, 1, but the old order is kept: 0, 1, 3. Node 2 is dropped
    ∷ row net_a (4 ∷ 2 ∷ 0 ∷ 6 ∷ 3 ∷ 1 ∷ []) (0 ∷ 0 ∷ 0 ∷ 6 ∷ 3 ∷ 0 ∷ []) (3 ∷ 2 ∷ 0 ∷ 4 ∷ 2 ∷ 1 ∷ []) (0 ∷ 1 ∷ 3 ∷ [])
    -- a search meets 0, 2, 1, but the numbers stay
    ∷ row net_a (3 ∷ 2 ∷ 0 ∷ 4 ∷ 2 ∷ 1 ∷ []) (0 ∷ 0 ∷ 0 ∷ 6 ∷ 3 ∷ 0 ∷ []) (3 ∷ 2 ∷ 0 ∷ 4 ∷ 2 ∷ 1 ∷ []) (0 ∷ 1 ∷ 2 ∷ [])
    -- stale counts are carried over; no arc at the root
    ∷ row net_a (2 ∷ 2 ∷ 4 ∷ 5 ∷ 7 ∷ 9 ∷ []) (0 ∷ 0 ∷ 0 ∷ 4 ∷ 1 ∷ 0 ∷ []) (1 ∷ 1 ∷ 2 ∷ 7 ∷ []) (0 ∷ [])
    -- 9 at an arc, 9 at a count, 8, 6
    ∷ row net_a (2 ∷ 3 ∷ 0 ∷ 3 ∷ 5 ∷ 2 ∷ 0 ∷ 1 ∷ []) (9 ∷ 1 ∷ 0 ∷ 0 ∷ 0 ∷ 0 ∷ []) [] []
    ∷ row net_a (2 ∷ 3 ∷ 0 ∷ 3 ∷ 5 ∷ 1 ∷ 0 ∷ 0 ∷ []) (9 ∷ 1 ∷ 2 ∷ 0 ∷ 0 ∷ 0 ∷ []) [] []
    ∷ row net_a (2 ∷ 3 ∷ 0 ∷ 3 ∷ 6 ∷ 1 ∷ 0 ∷ 1 ∷ []) (8 ∷ 1 ∷ 2 ∷ 0 ∷ 0 ∷ 0 ∷ []) [] []
    ∷ row net_a (2 ∷ []) (6 ∷ 0 ∷ 0 ∷ 0 ∷ 0 ∷ 0 ∷ []) [] []
    ∷ []

-- ---- what the definitions give

abbrev pub words_where : Verdict → List ℕ → List ℕ
words_where (Ok tt) words = words
words_where (Err r) words = []

abbrev pub computed : List ℕ → List ℕ → Row
computed net sheet =
    let v = words_reply net sheet in
    row net sheet (plain_trim (answer_of (trim_core net sheet) v)) (words_where v (trimmed_words net sheet)) (words_where v (kept_list net sheet))

abbrev pub computed_all : List Row → List Row
computed_all [] = []
computed_all (r ∷ rs) = computed r.net r.sheet ∷ computed_all rs

abbrev pub TrimmedExamples : Type 0
TrimmedExamples = computed_all table ≡ table
