-- `minimize::form_of` meets its contract.
use Rattle.refusal.proofs.Verdicts.{passed_on}
use Rattle.scan.proofs.Basics.{rules, refl}
use Rattle.lending.proofs.Laws.{refused-words}
use Rattle.minimize.proofs.Told.{told}
use Rattle.minimize.proofs.form_of.Goals as goal

pub returns-in_err-check : goal.returns-in_err-check
returns-in_err-check c =
    rw (passed_on _ c.from_residual.ensures.1)
    (refused-words (search (told, rules)) refl
    )
