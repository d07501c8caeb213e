-- `trim::writer::new_key` meets its contract.
-- ---- an arc
-- ---- a count
use Rattle.scan.proofs.Basics.{arith, rules}
use Rattle.trim.proofs.Reading.{number-some, key-arc, key-count}
use Rattle.trim.proofs.writer.new_key.Goals as goal

pub overflow_sub-number : goal.overflow_sub-number
overflow_sub-number c =
    let p = c.requires in
    omega (arith, number-some p.new_nodes p.kept_entry c.cell_of.ensures)

pub returns-then-key-arcs : goal.returns-then-key-arcs
returns-then-key-arcs c = search (key-arc, rules)

pub returns : goal.returns
returns c = search (key-count, rules)
