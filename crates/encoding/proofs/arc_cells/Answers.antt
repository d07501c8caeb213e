use Rattle.scan.proofs.Basics.{arith, ◌≡◌, ◌∙◌}
use Rattle.scan.proofs.Tabulate.{tabulate-is}
use Rattle.encoding.specs.Kept.{arc_cell_at, arc_cells}
use Rattle.encoding.proofs.Kept.{cell-none, filled_none, filled_more, filled-skip}
use Rattle.encoding.proofs.arc_cells.Goals as goal
use Rattle.encoding.proofs.arc_cells.Goals.{then-entry-gt0, else-entry-gt0}

pub loop-t-init : goal.loop-t-init
loop-t-init c = filled_none _

pub loop-t-preserved : goal.loop-t-preserved
unfolding arc_cell_at
loop-t-preserved c =
    let f = c.loop-t.invariant in
    let e = c.arc_entries-codes.ensures in
    elim c.if-entry-gt0.branch [
      | then-entry-gt0 w ↦ rw w.cells-is (filled_more f _ (omega arith) (w.arc_cell.ensures ∙ rw e))
      | else-entry-gt0 w ↦ rw w.cells-is (filled-skip f (rw (← e) (cell-none _ _ _ (omega arith))))
    ]

pub returns : goal.returns
unfolding arc_cells
returns c =
    let w = c.loop-t in
    let e : w.t ≡ 32 = omega arith in
    tabulate-is _ 0 32 w.cells w.invariant.size (rw e at w.invariant.below)
