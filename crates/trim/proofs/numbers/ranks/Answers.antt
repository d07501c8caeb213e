use Rattle.scan.proofs.Basics.{arith}
use Rattle.scan.proofs.Tests.{lt-ltb, le-ltb}
use Rattle.reach.specs.Reach.{is_marked}
use Rattle.trim.proofs.Numbering.{numbered-none, numbered-hit, numbered-miss}
use Rattle.trim.proofs.numbers.ranks.Goals as goal
use Rattle.trim.proofs.numbers.ranks.Goals.{then-marks-n-gt0, else-marks-n-gt0}

pub loop-n-init : goal.loop-n-init
loop-n-init c = numbered-none _

pub loop-n-preserved : goal.loop-n-preserved
unfolding is_marked
loop-n-preserved c =
    let h = c.loop-n.invariant in
    elim c.if-marks-n-gt0.branch [
      | then-marks-n-gt0 w ↦ rw (w.cells-is, w.found-is) (numbered-hit h (lt-ltb _ _ w.if-marks-n-gt0.true) (omega arith))
      | else-marks-n-gt0 w ↦ rw (w.cells-is, w.found-is) (numbered-miss h (le-ltb _ _ w.if-marks-n-gt0.false))
    ]
