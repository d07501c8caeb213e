-- `mend::mend_within` meets its contract.
use Rattle.scan.proofs.Basics.{sym, ◌∙◌}
use Rattle.refusal.proofs.Verdicts.{passed_on}
use Rattle.lending.proofs.Laws.{refused-scratch, served}
use Rattle.mend.proofs.mend_within.Goals as goal

pub returns-in_err-scratch_fault : goal.returns-in_err-scratch_fault
returns-in_err-scratch_fault c = refused-scratch (sym c.scratch_fault.ensures ∙ c.in_err-scratch_fault.was) (passed_on _ c.from_residual.ensures.1)

pub returns : goal.returns
returns c = served (sym c.scratch_fault.ensures ∙ c.in_ok-scratch_fault.was) c.mend_into-answer.ensures c.clear_front.ensures
