use Rattle.scan.proofs.Basics.{arith, rules}
use Rattle.trim.proofs.Reading.{entry_kept_lem, entry-dropped}
use Rattle.trim.proofs.Writing.{count_none, count-hit, count-miss, counted}
use Rattle.trim.proofs.writer.entry_count.Goals as goal
use Rattle.trim.proofs.writer.entry_count.Goals.{then-cell_of-gt0, else-cell_of-gt0}

pub loop-i-init : goal.loop-i-init
loop-i-init c = (omega arith, count_none _)

pub loop-i-preserved : goal.loop-i-preserved
loop-i-preserved c =
    let (m, e) = c.loop-i.invariant in
    elim c.if-cell_of-gt0.branch [
      | then-cell_of-gt0 w ↦ (omega arith, rw w.entries-is (count-hit _ _ e (entry_kept_lem _ _ _ c.cell_of.ensures w.if-cell_of-gt0.true)))
      | else-cell_of-gt0 w ↦ (omega arith, rw w.entries-is (count-miss _ _ e (search (entry-dropped, rules))))
    ]

pub returns : goal.returns
returns c = counted c.requires.readable _ (omega arith) c.loop-i.invariant.1
