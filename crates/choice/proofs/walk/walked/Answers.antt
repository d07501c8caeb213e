use Rattle.scan.proofs.Basics.{arith, ◌≡◌}
use Rattle.choice.proofs.Whole.{few_transitions, set-from}
use Rattle.choice.proofs.Answer.{none_passed}
use Rattle.choice.proofs.Passed.{sets-out, goes_on}
use Rattle.choice.proofs.walk.walked.Goals as goal

pub returns-then-not-can_walk : goal.returns-then-not-can_walk
returns-then-not-can_walk c = none_passed

pub set_ends-ends-requires : goal.set_ends-ends-requires
set_ends-ends-requires c = few_transitions c.requires.offering

pub loop-n-init : goal.loop-n-init
loop-n-init c =
    let o = c.requires.offering in let e = c.requires.nodes_value in
    sets-out o e (c.can_walk.ensures (c.if-not-can_walk.false))

pub first_member-c-requires : goal.first_member-c-requires
first_member-c-requires c = let g = c.loop-n.invariant in record { row_at = g.row; transitions_le_most_transitions = few_transitions g.offering }

pub returns-then-transitions-c : goal.returns-then-transitions-c
returns-then-transitions-c c = c.loop-n.invariant.walked

pub offset_bounds-ends-c : goal.offset_bounds-ends-c
offset_bounds-ends-c c = omega (arith, few_transitions c.loop-n.invariant.offering)

pub bounds-ends-c : goal.bounds-ends-c
bounds-ends-c c = omega (arith, few_transitions c.loop-n.invariant.offering)

pub overflow_cast-ends : goal.overflow_cast-ends
overflow_cast-ends c = omega (arith, few_transitions c.loop-n.invariant.offering, c.set_ends-ends.ensures.within c.first_member-c.result)

pub whole_end-next-requires : goal.whole_end-next-requires
whole_end-next-requires c =
    let g = c.loop-n.invariant in
    record { row_at = (g.row, c.first_member-c.ensures c.if-transitions-c.false); set_from = set-from g.offering c.set_ends-ends.ensures _ c.if-transitions-c.false }

pub returns-then-next-eq0 : goal.returns-then-next-eq0
returns-then-next-eq0 c = c.loop-n.invariant.walked

pub overflow_cast-c : goal.overflow_cast-c
overflow_cast-c c = omega (arith, few_transitions c.loop-n.invariant.offering, c.if-transitions-c.false)

pub bounds-awaits-n : goal.bounds-awaits-n
bounds-awaits-n c = omega (arith, c.loop-n.invariant.nodes_are, c.loop-n-test.true)

pub overflow_cast-first : goal.overflow_cast-first
overflow_cast-first c = omega (arith, few_transitions c.loop-n.invariant.offering)

pub overflow_add-first : goal.overflow_add-first
overflow_add-first c = let g = c.loop-n.invariant in omega (arith, few_transitions g.offering, g.row.low)

pub loop-n-preserved : goal.loop-n-preserved
loop-n-preserved c =
    goes_on c.loop-n.invariant c.loop-n-test.true c.if-transitions-c.false (c.whole_end-next.ensures (omega (arith, c.if-next-eq0.false)))
    (c.first_member-c.ensures c.if-transitions-c.false) c.mark_if.ensures

pub returns : goal.returns
returns c =
    let w = c.loop-n.invariant.walked in
    let e : c.loop-n.n ≡ c.args.nodes = omega (arith, w.within, c.loop-n-test.false) in
    rw e at w
