-- `encoding::filled` meets its contract: the entries of the columns passed are counted.
use Rattle.scan.proofs.Basics.{◌≡◌}
use Rattle.scan.specs.Scan.{count}
use Rattle.encoding.specs.Rows.{filled_at}
use Rattle.encoding.proofs.filled.Given as goal

abbrev pub invariant-loop-cell : goal.invariant-loop-cell
invariant-loop-cell l = l.entries ≡ count (filled_at l.fn.cells) l.cell-index
