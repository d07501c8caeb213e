-- The answer of a replay, also as plain numbers: §8.1.
use Rattle.std.specs.Prelude.{ℕ, List, [], ◌∷◌, Result}
use Rattle.refusal.specs.Index.{plain_index}
use Rattle.refusal.specs.Refusal.{plain_answer}
use Rattle.refusal.specs.declared.Refusal.{Refusal}
use Rattle.replay.specs.declared.Outcome.{Outcome}

abbrev pub ReplayAnswer : Type 0
ReplayAnswer = Result Outcome Refusal

abbrev pub outcome_numbers : Outcome → List ℕ
outcome_numbers d = d.totals.taken ∷ d.totals.put ∷ plain_index d.entry ∷ []

-- number, kind, position, the totals taken and put (§10.11), the entry (§10.13); the last three are 0 if refused (§8.3)
abbrev pub plain_replay : ReplayAnswer → List ℕ
plain_replay answer = plain_answer outcome_numbers answer
