use Rattle.scan.proofs.Basics.{arith, sym, ◌∙◌}
use Rattle.react.proofs.ArcRows.{rises}
use Rattle.react.proofs.ReportSize.{size-start, size-node, size-end, size-busy, size-fits, size-await}
use Rattle.react.proofs.report.size.Goals as goal
use Rattle.react.proofs.report.size.Goals.{then-is_await, else-is_await}

pub loop-n-init : goal.loop-n-init
loop-n-init c = size-start c.args.schedule.now.judged.mapped c.nodes-n-end.ensures.size

pub overflow_sub-size : goal.overflow_sub-size
overflow_sub-size c =
    omega (arith, c.start.ensures, c.end.ensures, rises c.args.schedule.now.judged.mapped (size-node c.loop-n.invariant c.loop-n-test.true))

pub overflow_mul-size : goal.overflow_mul-size
overflow_mul-size c = omega (arith, c.end.ensures, c.nodes-n-end.ensures.few, size-fits c.loop-n.invariant c.loop-n-test.true)

pub overflow_add-size : goal.overflow_add-size
overflow_add-size c = omega (arith, c.end.ensures, c.nodes-n-end.ensures.few, size-fits c.loop-n.invariant c.loop-n-test.true)

pub loop-n-preserved : goal.loop-n-preserved
loop-n-preserved c =
    let g = c.loop-n.invariant in
    let k = c.loop-n-test.true in
    elim c.if-is_await.branch [
      | then-is_await w ↦ rw (w.size-is, w.end.ensures, w.start.ensures) (size-await g k (sym c.is_await.ensures ∙ w.if-is_await.true))
      | else-is_await w ↦ rw w.size-is (size-busy g k (sym c.is_await.ensures ∙ w.if-is_await.false))
    ]

pub returns : goal.returns
returns c = size-end c.loop-n.invariant (omega arith)
