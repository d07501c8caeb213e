-- The answers of the calls on schedules, also as plain numbers: §8.1.
use Rattle.std.specs.Prelude.{ℕ, List, [], ◌∷◌, Result, Some}
use Rattle.refusal.specs.Index.{plain_index}
use Rattle.refusal.specs.Refusal.{plain_answer}
use Rattle.refusal.specs.declared.Refusal.{Refusal}
use Rattle.schedule.specs.declared.Step.{Step}
use Rattle.schedule.specs.declared.Ran.{Ran}

abbrev pub FireAnswer : Type 0
FireAnswer = Result Step Refusal

abbrev pub step_numbers : Step → List ℕ
step_numbers step = plain_index (Some step.entry) ∷ 0 ∷ 0 ∷ []

-- number, kind, position, the entry (§10.13), which is missing if refused (§8.3)
abbrev pub plain_fire : FireAnswer → List ℕ
plain_fire answer = plain_answer step_numbers answer

abbrev pub RunAnswer : Type 0
RunAnswer = Result Ran Refusal

abbrev pub run_numbers : Ran → List ℕ
run_numbers ran = ran.fired ∷ ran.node ∷ plain_index ran.entry ∷ []

-- number, kind, position, how many were fired, the node at the end (§10.8), the entry (§10.13); the last three are 0 if refused (§8.3)
abbrev pub plain_run : RunAnswer → List ℕ
plain_run answer = plain_answer run_numbers answer
