use Rattle.scan.proofs.Basics.{arith, refl}
use Rattle.scan.proofs.Tests.{lt-ltb, le-ltb}
use Rattle.scan.specs.Scan.{count, bit}
use Rattle.scan.proofs.Count.{count-le, count-more}
use Rattle.encoding.specs.Rows.{filled_at}
use Rattle.encoding.proofs.filled.Goals as goal
use Rattle.encoding.proofs.filled.Goals.{then-cell-gt0, else-cell-gt0}

pub loop-cell-init : goal.loop-cell-init
unfolding count
loop-cell-init c = refl

pub overflow_add-entries : goal.overflow_add-entries
overflow_add-entries c = omega (arith, count-le (filled_at c.args.cells) c.loop-cell.cell-index)

pub loop-cell-preserved : goal.loop-cell-preserved
unfolding filled_at bit
loop-cell-preserved c =
    elim c.if-cell-gt0.branch [
      | then-cell-gt0 w ↦ rw (count-more, lt-ltb _ _ w.if-cell-gt0.true) (omega arith)
      | else-cell-gt0 w ↦ rw (count-more, le-ltb _ _ w.if-cell-gt0.false) (omega arith)
    ]
