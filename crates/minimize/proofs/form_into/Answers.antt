-- `minimize::form_into` meets its contract.
use Rattle.refusal.proofs.Verdicts.{passed_on}
use Rattle.scan.proofs.Basics.{rules, refl}
use Rattle.lending.proofs.Laws.{refused-words}
use Rattle.minimal.proofs.Done.{form-of-schedule}
use Rattle.minimize.proofs.Told.{told}
use Rattle.minimize.proofs.form_into.Goals as goal

pub returns-in_err-verdict : goal.returns-in_err-verdict
returns-in_err-verdict c = rw (passed_on _ c.from_residual.ensures.1) (refused-words (search (told, rules)) refl)

pub returns : goal.returns
returns c = form-of-schedule _ _ (search (told, rules)) (search rules)
