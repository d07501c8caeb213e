-- `table::entry_row` meets its contract: each turn of the loop is a turn of the walk.
use Rattle.table.specs.Row.{section_cell}
use Rattle.table.proofs.Walk.{Walking}
use Rattle.table.proofs.entry_row.Given as goal

abbrev pub invariant-loop-i : goal.invariant-loop-i
invariant-loop-i l = Walking l.words l.offset l.entries l.first l.width section_cell l.i l.row
