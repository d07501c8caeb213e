use Rattle.scan.proofs.Basics.{arith}
use Rattle.react.proofs.Reporting.{row-start, row-end, row_low, early_fits, late_fits, row_more}
use Rattle.react.proofs.RowWalks.{told_of, entry-there, first-low, within}
use Rattle.react.proofs.report.write_row.Goals as goal

pub loop-i-init : goal.loop-i-init
loop-i-init c =
    rw c.start-i.ensures
    (row-start c.args.timed.now.schedule.now.judged.mapped c.args.timed.now.passed c.requires c.first_key-first.ensures)

pub transition-t-requires : goal.transition-t-requires
transition-t-requires c =
    let g = c.loop-i.invariant in
    let k = rw c.end-i-end.ensures at c.loop-i-test.true in
    record { is_entry = entry-there g.walks k; first_bound = first-low g.walks k }

pub leads_to-m-requires : goal.leads_to-m-requires
leads_to-m-requires c = entry-there c.loop-i.invariant.walks (rw c.end-i-end.ensures at c.loop-i-test.true)

pub lasts-requires : goal.lasts-requires
lasts-requires c =
    let g = c.loop-i.invariant in
    let k = rw c.end-i-end.ensures at c.loop-i-test.true in
    rw (told_of g.passed c.args.timed.now.durations.shape) (within g.walks k c.transition-t.ensures)

pub offset_bounds-best-m : goal.offset_bounds-best-m
offset_bounds-best-m c =
    omega (arith, row_low c.loop-i.invariant (rw c.end-i-end.ensures at c.loop-i-test.true) c.transition-t.ensures c.leads_to-m.ensures)

pub bounds-best-m : goal.bounds-best-m
bounds-best-m c = row_low c.loop-i.invariant (rw c.end-i-end.ensures at c.loop-i-test.true) c.transition-t.ensures c.leads_to-m.ensures

pub overflow_add-early : goal.overflow_add-early
overflow_add-early c =
    let k = rw c.end-i-end.ensures at c.loop-i-test.true in
    omega (arith, early_fits c.loop-i.invariant k c.transition-t.ensures c.leads_to-m.ensures c.lasts.ensures)

pub lasts-requires-in-loop-i : goal.lasts-requires-in-loop-i
lasts-requires-in-loop-i c =
    let g = c.loop-i.invariant in
    let k = rw c.end-i-end.ensures at c.loop-i-test.true in
    rw (told_of g.passed c.args.timed.now.durations.shape) (within g.walks k c.transition-t.ensures)

pub offset_bounds-worst-m : goal.offset_bounds-worst-m
offset_bounds-worst-m c =
    omega (arith, row_low c.loop-i.invariant (rw c.end-i-end.ensures at c.loop-i-test.true) c.transition-t.ensures c.leads_to-m.ensures)

pub bounds-worst-m : goal.bounds-worst-m
bounds-worst-m c = row_low c.loop-i.invariant (rw c.end-i-end.ensures at c.loop-i-test.true) c.transition-t.ensures c.leads_to-m.ensures

pub overflow_add-late : goal.overflow_add-late
overflow_add-late c =
    let k = rw c.end-i-end.ensures at c.loop-i-test.true in
    omega (arith, late_fits c.loop-i.invariant k c.transition-t.ensures c.leads_to-m.ensures c.lasts-in-loop-i.ensures)

pub loop-i-preserved : goal.loop-i-preserved
loop-i-preserved c =
    let k = rw c.end-i-end.ensures at c.loop-i-test.true in
    row_more c.loop-i.invariant k c.transition-t.ensures c.leads_to-m.ensures c.lasts.ensures c.lasts-in-loop-i.ensures c.write_pair-next.ensures

pub returns : goal.returns
returns c = row-end c.loop-i.invariant (omega (arith, c.end-i-end.ensures))
