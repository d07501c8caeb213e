-- `firmware::fire` meets its contract.
use Rattle.scan.proofs.Basics.{rules, ◌∙◌}
use Rattle.refusal.proofs.Verdicts.{passed_on}
use Rattle.firmware.proofs.Firing.{next-early, next-words}
use Rattle.firmware.proofs.fire.Goals as goal

pub returns-in_err-early_fault : goal.returns-in_err-early_fault
returns-in_err-early_fault c = passed_on _ c.from_residual.ensures.1 ∙ next-early _ _ _ _ _ c.early_fault.ensures c.in_err-early_fault.was

pub returns : goal.returns
returns c = search (next-words, rules)
