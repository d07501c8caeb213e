-- `plainly::spreading::count_cell` meets its contract.
use Rattle.scan.proofs.Basics.{arith, rules, ◌∙◌, get_or}
use Rattle.sequential.proofs.Entries.{rows_few}
use Rattle.plainly.proofs.LookUp.{count-none, count-value}
use Rattle.plainly.proofs.spreading.count_cell.Goals as goal

pub overflow_mul-n : goal.overflow_mul-n
overflow_mul-n c = omega (arith, c.requires.arcs.sizes, rows_few c.args.n c.places-places.result (omega arith) (omega arith))

pub overflow_add-first : goal.overflow_add-first
overflow_add-first c =
    let few = rows_few c.args.n c.places-places.result (omega arith) (omega arith) in
    let arcs = rows_few (get_or c.args.sheet.now 0 0) c.transitions.result (omega arith) (omega arith) in omega (arith, c.requires.arcs.sizes)

pub overflow_add-first-then-p-places : goal.overflow_add-first-then-p-places
overflow_add-first-then-p-places c =
    let few = rows_few c.args.n c.places-places.result (omega arith) (omega arith) in
    let arcs = rows_few (get_or c.args.sheet.now 0 0) c.transitions.result (omega arith) (omega arith) in omega (arith, c.requires.arcs.sizes)

pub returns-then-p-places : goal.returns-then-p-places
returns-then-p-places c =
    let e = c.transitions.ensures in
    let f = c.places-places.ensures in
    (rw (e, f) at c.value_of.ensures) ∙ count-value (search rules) _ _ c.if-n-sheet.true (rw f at c.if-p-places.true)

pub returns-else-n-sheet : goal.returns-else-n-sheet
returns-else-n-sheet c = count-none (search rules) _ _ (rw c.places-places.ensures at c.else-n-sheet.either)
