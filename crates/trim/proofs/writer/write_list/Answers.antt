use Rattle.scan.proofs.Basics.{arith}
use Rattle.encoding.specs.Encoding.{gather}
use Rattle.encoding.proofs.Rows.{appended-none}
use Rattle.trim.proofs.Writing.{list_hit, list_miss, list_all}
use Rattle.trim.proofs.writer.write_list.Goals as goal
use Rattle.trim.proofs.writer.write_list.Goals.{then-cells-n-gt0, else-cells-n-gt0}

pub loop-n-init : goal.loop-n-init
unfolding gather
loop-n-init c = appended-none _ _

pub loop-n-preserved : goal.loop-n-preserved
loop-n-preserved c =
    elim c.if-cells-n-gt0.branch [
      | then-cells-n-gt0 w ↦ rw (w.list-is, w.next-is) (list_hit c.requires _ c.loop-n-test.true c.loop-n.invariant w.if-cells-n-gt0.true w.put-next.ensures)
      | else-cells-n-gt0 w ↦ rw (w.list-is, w.next-is) (list_miss c.requires _ c.loop-n-test.true c.loop-n.invariant w.if-cells-n-gt0.false)
    ]

pub returns : goal.returns
returns c = list_all _ _ (omega arith) c.loop-n.invariant
