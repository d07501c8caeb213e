-- `trim::writer::new_value` meets its contract.
use Rattle.scan.proofs.Basics.{arith, rules}
use Rattle.trim.proofs.Reading.{target_low, target-cell, value_stays}
use Rattle.trim.proofs.writer.new_value.Goals as goal

pub bounds-cells-value : goal.bounds-cells-value
bounds-cells-value c =
    let p = c.requires in
    omega (arith, target_low p.new_cells p.kept_entry c.transitions.ensures c.if-sheet-i.true)

pub overflow_sub-result : goal.overflow_sub-result
overflow_sub-result c =
    let p = c.requires in
    omega (arith, target-cell p.new_cells p.kept_entry c.transitions.ensures c.if-sheet-i.true)

pub returns-then-sheet-i : goal.returns-then-sheet-i
returns-then-sheet-i c =
    let p = c.requires in
    omega (arith, target-cell p.new_cells p.kept_entry c.transitions.ensures c.if-sheet-i.true)

pub returns : goal.returns
returns c = search (value_stays, rules)
