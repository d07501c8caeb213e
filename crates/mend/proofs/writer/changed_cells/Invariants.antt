-- `mend::writer::changed_cells` meets its contract: the places before the counter have their cells.
use Rattle.mend.specs.Writing.{changed_cell}
use Rattle.mend.proofs.Storing.{Storing}
use Rattle.mend.proofs.writer.changed_cells.Given as goal

abbrev pub invariant-loop-p : goal.invariant-loop-p
invariant-loop-p l = Storing (changed_cell l.row l.given) 32 l.cells l.p
