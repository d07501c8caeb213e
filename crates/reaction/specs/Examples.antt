-- Schedules with durations to try: the answer as plain numbers, and the words of the report, none if refused.
use Rattle.refusal.specs.Refusal.{Verdict}
use Rattle.std.specs.Prelude.{ℕ, ◌≡◌, List, [], ◌∷◌, length, Err, Ok}
use Rattle.lending.specs.Call.{answer_of}
use Rattle.reaction.specs.Call.{reaction_verdict, report_words, reaction_core, plain_reaction}

pub record Row : Type 0 where
  pub net : List ℕ
  pub sheet : List ℕ
  pub words : List ℕ
  pub answer : List ℕ
  pub report : List ℕ

abbrev pub row : List ℕ → List ℕ → List ℕ → List ℕ → List ℕ → Row
row net sheet words answer report = record { net = net; sheet = sheet; words = words; answer = answer; report = report }

abbrev pub timed : List ℕ → List ℕ → List ℕ → List ℕ → Row
timed net sheet words report = row net sheet words (0 ∷ 0 ∷ 0 ∷ length report ∷ 0 ∷ 0 ∷ []) report

abbrev pub refused : List ℕ → List ℕ → List ℕ → List ℕ → Row
refused net sheet words answer = row net sheet words answer []

-- t0 puts one, t1 takes one
abbrev pub net_a : List ℕ
net_a = 1 ∷ 2 ∷ 2 ∷ 1 ∷ 2 ∷ 1 ∷ 1 ∷ []

abbrev pub sheet_a : List ℕ
sheet_a = 2 ∷ 3 ∷ 0 ∷ 3 ∷ 5 ∷ 1 ∷ 0 ∷ 1 ∷ []

-- t0 puts one, t1 takes one, t2 takes one and puts it back
abbrev pub net_b : List ℕ
net_b = 1 ∷ 3 ∷ 4 ∷ 1 ∷ 2 ∷ 3 ∷ 5 ∷ 1 ∷ 1 ∷ 1 ∷ 1 ∷ []

-- t0 fills the first place; t1 empties it, t2 moves it to the second place, which t3 empties
abbrev pub net_c : List ℕ
net_c = 2 ∷ 4 ∷ 5 ∷ 2 ∷ 4 ∷ 7 ∷ 8 ∷ 13 ∷ 1 ∷ 1 ∷ 1 ∷ 1 ∷ 1 ∷ []

abbrev pub table : List Row
table =
    -- a source that leads straight to an await node
    timed (1 ∷ 1 ∷ 0 ∷ []) (1 ∷ 1 ∷ 0 ∷ 0 ∷ []) (1 ∷ 3 ∷ 4 ∷ []) (3 ∷ 4 ∷ []) ∷
    timed net_a sheet_a (2 ∷ 5 ∷ 7 ∷ 10 ∷ 20 ∷ []) (12 ∷ 30 ∷ []) ∷
    -- two await nodes
    timed net_a (4 ∷ 6 ∷ 0 ∷ 3 ∷ 4 ∷ 7 ∷ 9 ∷ 11 ∷ 1 ∷ 2 ∷ 3 ∷ 0 ∷ 1 ∷ 1 ∷ []) (2 ∷ 5 ∷ 7 ∷ 10 ∷ 20 ∷ []) (12 ∷ 30 ∷ 12 ∷ 30 ∷ []) ∷
    -- the best and the worst time go by different paths
    timed net_c (3 ∷ 6 ∷ 0 ∷ 5 ∷ 6 ∷ 11 ∷ 14 ∷ 17 ∷ 1 ∷ 0 ∷ 2 ∷ 0 ∷ 1 ∷ 1 ∷ []) (4 ∷ 1 ∷ 10 ∷ 2 ∷ 3 ∷ 1 ∷ 10 ∷ 20 ∷ 30 ∷ []) (6 ∷ 51 ∷ []) ∷
    -- the limits
    timed net_a sheet_a (2 ∷ 0 ∷ 1000000 ∷ 1000000 ∷ 1000000 ∷ []) (1000000 ∷ 2000000 ∷ []) ∷
    refused net_a sheet_a (2 ∷ 0 ∷ 0 ∷ 0 ∷ 1000001 ∷ []) (32 ∷ 1 ∷ 1 ∷ 0 ∷ 0 ∷ 0 ∷ []) ∷
    refused net_a sheet_a (2 ∷ 5 ∷ 8 ∷ 4 ∷ 7 ∷ []) (32 ∷ 1 ∷ 0 ∷ 0 ∷ 0 ∷ 0 ∷ []) ∷
    refused net_a sheet_a (2 ∷ 5 ∷ 7 ∷ 10 ∷ []) (32 ∷ 0 ∷ 0 ∷ 0 ∷ 0 ∷ 0 ∷ []) ∷
    refused net_a sheet_a (1 ∷ 5 ∷ 7 ∷ 10 ∷ 20 ∷ []) (32 ∷ 0 ∷ 0 ∷ 0 ∷ 0 ∷ 0 ∷ []) ∷
    refused net_a sheet_a [] (32 ∷ 0 ∷ 0 ∷ 0 ∷ 0 ∷ 0 ∷ []) ∷
    -- the sheet first, then the durations, then the loop
    refused net_a (1 ∷ 0 ∷ []) [] (11 ∷ 3 ∷ 0 ∷ 0 ∷ 0 ∷ 0 ∷ []) ∷
    refused net_b (2 ∷ 4 ∷ 0 ∷ 4 ∷ 5 ∷ 7 ∷ 1 ∷ 0 ∷ 1 ∷ 1 ∷ []) [] (32 ∷ 0 ∷ 0 ∷ 0 ∷ 0 ∷ 0 ∷ []) ∷
    refused net_b (2 ∷ 4 ∷ 0 ∷ 4 ∷ 5 ∷ 7 ∷ 1 ∷ 0 ∷ 1 ∷ 1 ∷ []) (3 ∷ 0 ∷ 0 ∷ 0 ∷ 0 ∷ 0 ∷ 0 ∷ []) (33 ∷ 3 ∷ 1 ∷ 0 ∷ 0 ∷ 0 ∷ []) ∷
    -- node 1 leads to the loop at node 2 and is on none
    refused net_b (3 ∷ 7 ∷ 0 ∷ 4 ∷ 5 ∷ 7 ∷ 8 ∷ 10 ∷ 11 ∷ 1 ∷ 0 ∷ 2 ∷ 0 ∷ 2 ∷ 1 ∷ 1 ∷ []) (3 ∷ 0 ∷ 0 ∷ 0 ∷ 0 ∷ 0 ∷ 0 ∷ []) (33 ∷ 3 ∷ 2 ∷ 0 ∷ 0 ∷ 0 ∷ []) ∷
    -- nodes 1 and 2 lead to each other
    refused net_b (3 ∷ 7 ∷ 0 ∷ 4 ∷ 5 ∷ 7 ∷ 8 ∷ 10 ∷ 11 ∷ 2 ∷ 0 ∷ 2 ∷ 0 ∷ 1 ∷ 1 ∷ 1 ∷ []) (3 ∷ 0 ∷ 0 ∷ 0 ∷ 0 ∷ 0 ∷ 0 ∷ []) (33 ∷ 3 ∷ 1 ∷ 0 ∷ 0 ∷ 0 ∷ []) ∷ []

-- ---- what the definitions give

abbrev pub words_where : Verdict → List ℕ → List ℕ
words_where (Ok tt) words = words
words_where (Err r) words = []

abbrev pub computed : List ℕ → List ℕ → List ℕ → Row
computed net sheet words =
    let v = reaction_verdict net sheet words in
    row net sheet words (plain_reaction (answer_of (reaction_core net sheet words) v)) (words_where v (report_words net sheet words))

abbrev pub computed_all : List Row → List Row
computed_all [] = []
computed_all (r ∷ rs) = computed r.net r.sheet r.words ∷ computed_all rs

abbrev pub Reported : Type 0
Reported = computed_all table ≡ table
