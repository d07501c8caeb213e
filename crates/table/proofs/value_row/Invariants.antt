-- `table::value_row` meets its contract: each turn of the loop is a turn of the walk.
use Rattle.scan.proofs.Basics.{◌+◌, ◌*◌, ◌≤◌, length}
use Rattle.table.specs.Table.{value_at}
use Rattle.table.proofs.Walk.{Walking}
use Rattle.table.proofs.value_row.Given as goal

abbrev pub invariant-loop-i : goal.invariant-loop-i
invariant-loop-i l = Walking l.words l.offset l.entries l.first l.width (value_at l.words l.offset l.entries) l.i l.row × (l.offset + 2 * l.entries ≤ length l.words)
