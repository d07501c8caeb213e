-- `mend::writer::part_row` meets its contract.
use Rattle.scan.proofs.Basics.{arith, refl, get_or}
use Rattle.graph.proofs.Starts.{counts-start-low}
use Rattle.mend.proofs.Climbing.{row-few}
use Rattle.mend.proofs.writer.part_row.Goals as goal

pub overflow_cast-result : goal.overflow_cast-result
overflow_cast-result c =
    let a = c.args in
    omega (arith, counts-start-low a.net.now (get_or a.sheet.now 0 0) a.n)

pub changed_cells-cells-requires : goal.changed_cells-cells-requires
changed_cells-cells-requires c =
    let f = c.requires.fitting in let k = c.requires.known_row in
    λ p l. rw k.is_row (row-few f _ p k.low l)

pub overflow_cast-result-in-Changes : goal.overflow_cast-result-in-Changes
overflow_cast-result-in-Changes c =
    let a = c.args in
    omega (arith, counts-start-low a.net.now 0 a.n)

pub returns-in-Counts : goal.returns-in-Counts
returns-in-Counts c = rw (c.in-Counts.is, c.counts_start-first.ensures, c.requires.known_row.is_row) refl

pub returns-in-Changes : goal.returns-in-Changes
returns-in-Changes c = rw (c.in-Changes.is, c.counts_start-first-in-Changes.ensures, c.changed_cells-cells.ensures, c.marking-given.ensures, c.requires.known_row.is_row) refl
