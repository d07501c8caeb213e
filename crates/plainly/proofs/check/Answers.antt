-- `plainly::check` meets its contract.
use Rattle.refusal.proofs.Verdicts.{passed_on}
use Rattle.scan.proofs.Basics.{rules, refl, sym, ◌∙◌}
use Rattle.lending.proofs.Laws.{refused-scratch, served}
use Rattle.lending.proofs.Lent.{scratch_holds}
use Rattle.plainly.proofs.Answer.{cleared-same}
use Rattle.plainly.proofs.Whole.{slow-words}
use Rattle.plainly.proofs.check.Goals as goal

pub returns-in_err-scratch_fault : goal.returns-in_err-scratch_fault
returns-in_err-scratch_fault c = rw (passed_on _ c.from_residual.ensures.1) (refused-scratch (sym (search rules) ∙ c.in_err-scratch_fault.was) refl)

pub answered-answer-requires : goal.answered-answer-requires
answered-answer-requires c = scratch_holds 8192 _ (sym (search rules) ∙ c.in_ok-scratch_fault.was)

pub returns : goal.returns
returns c =
    let answer = c.answered-answer.ensures.value in let front = c.answered-answer.ensures.front_alone in
    served (sym c.scratch_fault.ensures
    ∙ c.in_ok-scratch_fault.was) (slow-words _ _ _ answer) (c.clear_front.ensures ∙ cleared-same 8192 _ _ front)
