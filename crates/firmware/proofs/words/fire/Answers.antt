-- `firmware::words::fire` meets its contract.
use Rattle.scan.proofs.Basics.{◌∙◌}
use Rattle.refusal.proofs.Verdicts.{passed_on}
use Rattle.firmware.proofs.Firing.{next-fired, next-refused}
use Rattle.firmware.proofs.words.fire.Goals as goal

pub returns-in_err-fired : goal.returns-in_err-fired
returns-in_err-fired c = passed_on _ c.from_residual.ensures.1 ∙ next-refused _ _ _ _ _ _ _ c.marking.ensures c.step-fired.ensures _ c.in_err-fired.was

pub returns : goal.returns
returns c = next-fired _ _ _ _ _ _ _ c.marking.ensures c.step-fired.ensures _ c.in_ok-fired.was
