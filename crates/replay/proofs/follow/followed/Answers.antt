use Rattle.scan.proofs.Basics.{arith, rules, refl, sym, ◌∙◌}
use Rattle.replay.specs.Log.{firing_count}
use Rattle.replay.proofs.LookUp.{entry-there, looks_on, unranked}
use Rattle.replay.proofs.Following.{sets-out, arrives, not-offered, other-node, fits, goes_on}
use Rattle.replay.proofs.follow.followed.Goals as goal

pub overflow_cast-n : goal.overflow_cast-n
unfolding firing_count
overflow_cast-n c = omega arith

pub loop-i-init : goal.loop-i-init
loop-i-init c = search (sets-out, unranked, rules)

pub returns-in_default : goal.returns-in_default
returns-in_default c = not-offered c.loop-i.invariant.0 c.loop-i-test.true (sym c.arc.ensures.0 ∙ c.in_default.is)

pub arc_target-requires : goal.arc_target-requires
arc_target-requires c = entry-there c.loop-i.invariant.1 _ (sym c.arc.ensures.0 ∙ c.in-Some.is)

pub returns-then-logged-arc_target : goal.returns-then-logged-arc_target
returns-then-logged-arc_target c =
    other-node c.loop-i.invariant.0 c.loop-i-test.true (sym c.arc.ensures.0 ∙ c.in-Some.is) c.arc_target.ensures
    c.if-logged-arc_target.true

pub overflow_cast-entry : goal.overflow_cast-entry
overflow_cast-entry c =
    let k = fits c.loop-i.invariant.0 c.loop-i-test.true (sym c.arc.ensures.0 ∙ c.in-Some.is) c.arc_target.ensures in
    omega arith

pub loop-i-preserved : goal.loop-i-preserved
loop-i-preserved c =
    let (a, w, k) = c.loop-i.invariant in
    let h = sym c.arc.ensures.0 ∙ c.in-Some.is in
    let m = c.if-logged-arc_target.false ∙ c.arc_target.ensures in
    (goes_on a c.loop-i-test.true h m refl, looks_on w _ h m, c.arc.ensures.1)

pub returns : goal.returns
returns c = search (arrives, rules)
