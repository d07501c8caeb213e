-- `trim::trim` meets its contract.
use Rattle.refusal.proofs.Verdicts.{passed_on}
use Rattle.scan.proofs.Basics.{rules, refl, sym, ◌∙◌}
use Rattle.lending.proofs.Laws.{refused-scratch, served}
use Rattle.trim.proofs.trim.Goals as goal

pub returns-in_err-scratch_fault : goal.returns-in_err-scratch_fault
returns-in_err-scratch_fault c = rw (passed_on _ c.from_residual.ensures.1) (refused-scratch (sym (search rules) ∙ c.in_err-scratch_fault.was) refl)

pub returns : goal.returns
returns c =
    served (sym (search rules)
    ∙ c.in_ok-scratch_fault.was) c.trim_into-answer.ensures c.clear_front.ensures
