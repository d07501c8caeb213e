-- `plainly::spreading::arc_cell` meets its contract.
use Rattle.scan.proofs.Basics.{arith, rules, ◌∙◌}
use Rattle.sequential.proofs.Entries.{rows_few}
use Rattle.plainly.proofs.LookUp.{arc-none, arc_value}
use Rattle.plainly.proofs.spreading.arc_cell.Goals as goal

pub overflow_mul-n : goal.overflow_mul-n
overflow_mul-n c = omega (arith, c.requires.arcs.sizes, rows_few c.args.n c.transitions-transitions.result (omega arith) (omega arith))

pub overflow_add-n : goal.overflow_add-n
overflow_add-n c = omega (arith, c.requires.arcs.sizes, rows_few c.args.n c.transitions-transitions.result (omega arith) (omega arith))

pub returns-then-t-transitions : goal.returns-then-t-transitions
returns-then-t-transitions c =
    let e = c.transitions-transitions.ensures in
    (rw e at c.value_of.ensures) ∙ arc_value (search rules) _ _ c.if-n-sheet.true (rw e at c.if-t-transitions.true)

pub returns-else-n-sheet : goal.returns-else-n-sheet
returns-else-n-sheet c = arc-none (search rules) _ _ (rw c.transitions-transitions.ensures at c.else-n-sheet.either)
