-- `firmware::check` meets its contract.
use Rattle.refusal.proofs.Verdicts.{passed_on}
use Rattle.firmware.proofs.Early.{served-early, served-words}
use Rattle.firmware.proofs.check.Goals as goal

pub returns-in_err-early_fault : goal.returns-in_err-early_fault
returns-in_err-early_fault c = served-early _ _ _ _ _ c.early_fault.ensures c.in_err-early_fault.was (passed_on _ c.from_residual.ensures.1)

pub returns : goal.returns
returns c = served-words _ _ _ _ _ c.early_fault.ensures c.in_ok-early_fault.was c.check.ensures
