-- `minimize::forms_of` meets its contract.
use Rattle.scan.proofs.Basics.{refl, sym, ◌∙◌}
use Rattle.refusal.proofs.Verdicts.{then_next, then-refused, passed_on}
use Rattle.lending.proofs.Laws.{refused-words}
use Rattle.minimize.proofs.forms_of.Goals as goal

pub returns-in_err-check : goal.returns-in_err-check
returns-in_err-check c =
    rw (passed_on _ c.from_residual.ensures.1)
    (let e = sym c.check.ensures ∙ c.in_err-check.was in
    refused-words (then-refused _ _ _ e ∙ e) refl)

pub returns-in_err-check-2 : goal.returns-in_err-check-2
returns-in_err-check-2 c =
    rw (passed_on _ c.from_residual-in_err-check-2.ensures.1)
    (let a = sym c.check.ensures ∙ c.in_ok-check.was in
    refused-words (then_next _ _ a ∙ sym c.check-2.ensures ∙ c.in_err-check-2.was) refl)
