-- `react::reaction_into` meets its contract.
use Rattle.refusal.proofs.Verdicts.{passed_on}
use Rattle.scan.proofs.Basics.{sym, ◌∙◌}
use Rattle.react.proofs.Done.{checked_refused}
use Rattle.react.proofs.reaction_into.Goals as goal

pub returns-in_err-checked : goal.returns-in_err-checked
returns-in_err-checked c = rw (passed_on _ c.from_residual.ensures.1) (checked_refused _ _ _ (sym c.checked.ensures ∙ c.in_err-checked.was) _)
