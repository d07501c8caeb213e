use Rattle.scan.proofs.Basics.{◌+◌, ◌*◌, ◌<◌, arith, sym, ◌∙◌, set}
use Rattle.reaction.specs.Memo.{unvisited}
use Rattle.react.proofs.Recursion.{worked-await, node_low, begin-falls, begins, worked-fits}
use Rattle.react.proofs.Recursion.{goes-start, goes-fewer, goes_end, enters, sum_fits, goes-arc}
use Rattle.react.proofs.RowWalks.{told_of, entry-there, first-low, within}
use Rattle.react.proofs.times.Timed.+time_of_arcs_time_of_node.Goals as goal

pub time_of_arcs-loop-i-init : goal.time_of_arcs-loop-i-init
time_of_arcs-loop-i-init t c =
    rw c.start-i.ensures
    (goes-start c.args.self.now.schedule.now.judged.mapped c.args.self.now.passed c.requires c.first_key-first.ensures
    c.start-time.ensures)

pub time_of_arcs-transition-t-requires : goal.time_of_arcs-transition-t-requires
time_of_arcs-transition-t-requires t c =
    let g = c.loop-i.invariant in
    let k = rw c.end-i-end.ensures at c.loop-i-test.true in
    record { is_entry = entry-there g.walks k; first_bound = first-low g.walks k }

pub time_of_arcs-leads_to-m-requires : goal.time_of_arcs-leads_to-m-requires
time_of_arcs-leads_to-m-requires t c = entry-there c.loop-i.invariant.walks (rw c.end-i-end.ensures at c.loop-i-test.true)

pub time_of_arcs-time_of_node-ahead-requires : goal.time_of_arcs-time_of_node-ahead-requires
time_of_arcs-time_of_node-ahead-requires t c =
    let g = c.loop-i.invariant in
    let h : 2 * unvisited c.loop-i.memo < t = omega (arith, goes-fewer g) in
    (h, enters g (rw c.end-i-end.ensures at c.loop-i-test.true) c.transition-t.ensures c.leads_to-m.ensures)

pub time_of_arcs-lasts-requires : goal.time_of_arcs-lasts-requires
time_of_arcs-lasts-requires t c =
    let g = c.loop-i.invariant in
    let k = rw c.end-i-end.ensures at c.loop-i-test.true in
    rw (told_of g.passed c.args.self.now.durations.shape) (within g.walks k c.transition-t.ensures)

pub time_of_arcs-overflow_add-lasts : goal.time_of_arcs-overflow_add-lasts
time_of_arcs-overflow_add-lasts t c =
    let k = rw c.end-i-end.ensures at c.loop-i-test.true in
    omega (arith, sum_fits c.loop-i.invariant k c.transition-t.ensures c.leads_to-m.ensures c.time_of_node-ahead.ensures c.lasts.ensures)

pub time_of_arcs-loop-i-preserved : goal.time_of_arcs-loop-i-preserved
time_of_arcs-loop-i-preserved t c =
    let k = rw c.end-i-end.ensures at c.loop-i-test.true in
    goes-arc c.loop-i.invariant k c.transition-t.ensures c.leads_to-m.ensures c.time_of_node-ahead.ensures c.lasts.ensures c.pick-time.ensures

pub time_of_arcs-returns : goal.time_of_arcs-returns
time_of_arcs-returns t c = goes_end c.loop-i.invariant (omega (arith, c.end-i-end.ensures))

pub time_of_node-returns-then-is_await : goal.time_of_node-returns-then-is_await
time_of_node-returns-then-is_await t c =
    worked-await c.args.self.now.schedule.now.judged.mapped c.args.self.now.passed c.requires (sym c.is_await.ensures ∙ c.if-is_await.true)

pub time_of_node-offset_bounds-memo-n : goal.time_of_node-offset_bounds-memo-n
time_of_node-offset_bounds-memo-n t c = omega (arith, node_low c.args.self.now.schedule.now.judged.mapped c.args.self.now.passed c.requires)

pub time_of_node-bounds-memo-n : goal.time_of_node-bounds-memo-n
time_of_node-bounds-memo-n t c = node_low c.args.self.now.schedule.now.judged.mapped c.args.self.now.passed c.requires

pub time_of_node-offset_bounds-memo-n-2 : goal.time_of_node-offset_bounds-memo-n-2
time_of_node-offset_bounds-memo-n-2 t c = omega (arith, node_low c.args.self.now.schedule.now.judged.mapped c.args.self.now.passed c.requires)

pub time_of_node-bounds-memo-n-2 : goal.time_of_node-bounds-memo-n-2
time_of_node-bounds-memo-n-2 t c = node_low c.args.self.now.schedule.now.judged.mapped c.args.self.now.passed c.requires

pub time_of_node-time_of_arcs-time-requires : goal.time_of_node-time_of_arcs-time-requires
time_of_node-time_of_arcs-time-requires t c =
    let m = c.args.self.now.schedule.now.judged.mapped in
    let p = c.args.self.now.passed in
    let e = c.requires in
    let z = c.if-kept-gt0.false in
    let h : 2 * unvisited (set c.args.memo.now c.args.n 1) + 1 < t = omega (arith, begin-falls m p e (omega (arith, z))) in
    (h, begins m p e (omega (arith, z)) (sym c.is_await.ensures ∙ c.if-is_await.false))

pub time_of_node-overflow_add-memo : goal.time_of_node-overflow_add-memo
time_of_node-overflow_add-memo t c = omega (arith, worked-fits c.args.self.now.passed c.time_of_arcs-time.ensures c.requires.node)

pub time_of_node-offset_bounds-memo-n-3 : goal.time_of_node-offset_bounds-memo-n-3
time_of_node-offset_bounds-memo-n-3 t c = omega (arith, node_low c.args.self.now.schedule.now.judged.mapped c.args.self.now.passed c.requires)

pub time_of_node-bounds-memo-n-3 : goal.time_of_node-bounds-memo-n-3
time_of_node-bounds-memo-n-3 t c = node_low c.args.self.now.schedule.now.judged.mapped c.args.self.now.passed c.requires
