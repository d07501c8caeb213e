-- `trim::writer::cell_of` meets its contract: the key of an arc is in a row of T keys, that of a count in a row of P keys.
-- ---- an arc
-- ---- a count
use Rattle.scan.proofs.Basics.{arith, rules}
use Rattle.trim.proofs.Reading.{arc-cell, count-cell}
use Rattle.trim.proofs.writer.cell_of.Goals as goal

pub returns-then-key-arcs : goal.returns-then-key-arcs
returns-then-key-arcs c =
    let p = c.requires in
    (arc-cell p.new_cells p.i_bound (search rules) c.if-key-arcs.true).1

pub bounds-cells-key-2 : goal.bounds-cells-key-2
bounds-cells-key-2 c =
    let p = c.requires in
    omega (arith, (count-cell p.new_cells p.i_bound c.transitions-transitions.ensures c.places.ensures c.if-key-arcs.false).0)

pub returns : goal.returns
returns c =
    let p = c.requires in
    (count-cell p.new_cells p.i_bound (search rules) c.places.ensures c.if-key-arcs.false).1
