-- `row_starts::start` meets its contract.
use Rattle.scan.proofs.Basics.{arith, ◌∙◌}
use Rattle.row_starts.proofs.Page.{none-there, one-there}
use Rattle.row_starts.proofs.start.Goals as goal

pub returns-then-n-ge128 : goal.returns-then-n-ge128
returns-then-n-ge128 c = (none-there _ _ (λ l a b. omega (arith, c.then-n-ge128.either)), omega arith)

pub returns : goal.returns
returns c =
    let e = c.from.ensures in
    (e ∙ c.number.ensures ∙ rw c.line.ensures (one-there _ _ (omega arith) (omega arith) (omega arith)), omega (arith, c.number.type_inv))
