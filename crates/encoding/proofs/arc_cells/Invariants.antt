-- `encoding::arc_cells` meets its contract: when the counter is t the cells of the first t transitions are there.
use Rattle.encoding.specs.Kept.{arc_cell_at}
use Rattle.encoding.proofs.Kept.{Filled}
use Rattle.encoding.proofs.arc_cells.Given as goal

abbrev pub invariant-loop-t : goal.invariant-loop-t
invariant-loop-t l = Filled (arc_cell_at l.net l.sheet l.numbers l.n) l.t l.cells
