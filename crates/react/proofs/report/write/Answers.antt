use Rattle.scan.proofs.Basics.{arith, sym, ◌∙◌}
use Rattle.react.proofs.Reporting.{write-start, all-written, writes-row, skips-row}
use Rattle.react.proofs.report.write.Goals as goal
use Rattle.react.proofs.report.write.Goals.{then-is_await, else-is_await}

pub loop-n-init : goal.loop-n-init
loop-n-init c =
    write-start c.args.timed.now.schedule.now.judged.mapped c.args.timed.now.passed c.nodes-n-end.ensures.size c.times-best.ensures c.times-worst.ensures

pub loop-n-preserved : goal.loop-n-preserved
loop-n-preserved c =
    let g = c.loop-n.invariant in
    let k = c.loop-n-test.true in
    elim c.if-is_await.branch [
      | then-is_await w ↦ rw (w.out-is, w.next-is) (writes-row g k w.write_row-next.ensures)
      | else-is_await w ↦ rw (w.out-is, w.next-is) (skips-row g k (sym c.is_await.ensures ∙ w.if-is_await.false))
    ]

pub returns : goal.returns
returns c = all-written c.loop-n.invariant (omega arith)
