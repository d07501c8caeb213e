use Rattle.scan.proofs.Basics.{◌+◌, ◌≤◌, ◌<◌, arith, rules, get_or}
use Rattle.replay.specs.Log.{firing_count}
use Rattle.replay.proofs.Sides.{counts-none, counts-fit, counts-more, counts_all}
use Rattle.replay.proofs.tally.fired_times.Goals as goal

pub overflow_cast-n : goal.overflow_cast-n
unfolding firing_count
overflow_cast-n c = omega arith

pub loop-i-init : goal.loop-i-init
loop-i-init c = search (counts-none, rules)

pub overflow_cast-t : goal.overflow_cast-t
overflow_cast-t c =
    let fits : let log = c.args.log.now in let w = c.loop-i in (get_or log (1 + w.i) 0 < 32) × (get_or w.parikh (get_or log (1 + w.i) 0) 0 ≤ 4096) = counts-fit c.loop-i.invariant c.loop-i-test.true in
    let k = fits in omega arith

pub offset_bounds-parikh-t : goal.offset_bounds-parikh-t
offset_bounds-parikh-t c =
    let fits : let log = c.args.log.now in let w = c.loop-i in (get_or log (1 + w.i) 0 < 32) × (get_or w.parikh (get_or log (1 + w.i) 0) 0 ≤ 4096) = counts-fit c.loop-i.invariant c.loop-i-test.true in
    let k = fits in omega arith

pub bounds-parikh-t : goal.bounds-parikh-t
bounds-parikh-t c =
    let fits : let log = c.args.log.now in let w = c.loop-i in (get_or log (1 + w.i) 0 < 32) × (get_or w.parikh (get_or log (1 + w.i) 0) 0 ≤ 4096) = counts-fit c.loop-i.invariant c.loop-i-test.true in
    fits.0

pub overflow_add-parikh : goal.overflow_add-parikh
overflow_add-parikh c =
    let fits : let log = c.args.log.now in let w = c.loop-i in (get_or log (1 + w.i) 0 < 32) × (get_or w.parikh (get_or log (1 + w.i) 0) 0 ≤ 4096) = counts-fit c.loop-i.invariant c.loop-i-test.true in
    let k = fits in omega arith

pub bounds-parikh-t-in-loop-i : goal.bounds-parikh-t-in-loop-i
bounds-parikh-t-in-loop-i c =
    let fits : let log = c.args.log.now in let w = c.loop-i in (get_or log (1 + w.i) 0 < 32) × (get_or w.parikh (get_or log (1 + w.i) 0) 0 ≤ 4096) = counts-fit c.loop-i.invariant c.loop-i-test.true in
    fits.0

pub loop-i-preserved : goal.loop-i-preserved
loop-i-preserved c = search (counts-more, rules)

pub returns : goal.returns
returns c = search (counts_all, rules)
