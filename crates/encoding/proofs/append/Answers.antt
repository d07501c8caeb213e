use Rattle.scan.proofs.Basics.{arith, ◌≡◌}
use Rattle.encoding.specs.Encoding.{gather}
use Rattle.encoding.specs.Rows.{row_words}
use Rattle.encoding.proofs.Rows.{appended-none, column-hit, column-miss, gathered-hit, gathered-miss}
use Rattle.encoding.proofs.append.Goals as goal
use Rattle.encoding.proofs.append.Goals.{then-cell-gt0, else-cell-gt0}

pub loop-c-init : goal.loop-c-init
unfolding gather
loop-c-init c = appended-none _ _

pub loop-c-preserved : goal.loop-c-preserved
loop-c-preserved c =
    let a = c.loop-c.invariant in
    elim c.if-cell-gt0.branch [
      | then-cell-gt0 w ↦ rw (w.out-is, w.next-is) (gathered-hit _ _ a (column-hit _ _ _ _ w.if-cell-gt0.true) (rw w.word.ensures at w.put-next.ensures))
      | else-cell-gt0 w ↦ rw (w.out-is, w.next-is) (gathered-miss _ _ a (column-miss _ _ _ _ w.if-cell-gt0.false))
    ]

pub returns : goal.returns
unfolding row_words
returns c = let e : c.loop-c.c ≡ 32 = omega arith in rw e at c.loop-c.invariant
