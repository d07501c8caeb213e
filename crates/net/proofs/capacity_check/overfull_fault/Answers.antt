use Rattle.scan.proofs.Basics.{arith, ◌≡◌, sym, ap, ◌∙◌, not, get_or}
use Rattle.scan.proofs.First.{first-none, first_more, first-hit, when-hit, when-miss}
use Rattle.refusal.specs.Verdict.{verdict_of}
use Rattle.net.specs.Net.{place_count, transition_count}
use Rattle.net.proofs.Overfull.{overfull-told}
use Rattle.net.proofs.capacity_check.overfull_fault.Goals as goal

pub returns-then-unlimited : goal.returns-then-unlimited
returns-then-unlimited c = ap verdict_of (sym (c.unlimited.ensures c.if-unlimited.true))

pub row_or_zeros-starts-requires : goal.row_or_zeros-starts-requires
unfolding transition_count
row_or_zeros-starts-requires c = λ h. omega arith

pub row_or_zeros-capacities-requires : goal.row_or_zeros-capacities-requires
unfolding transition_count
row_or_zeros-capacities-requires c = λ h. omega arith

pub loop-p-init : goal.loop-p-init
unfolding place_count transition_count
loop-p-init c = (omega arith, first-none _, overfull-told c.requires c.row_or_zeros-starts.ensures c.row_or_zeros-capacities.ensures)

pub returns-then-not-allows : goal.returns-then-not-allows
unfolding place_count
returns-then-not-allows c =
    let w = c.loop-p in
    let l = c.loop-p-test.true in
    c.refuse.ensures ∙ ap verdict_of (sym (first-hit _ _ _ w.invariant.1 (w.invariant.2 _ l ∙ when-hit _ _ (rw (← c.allows.ensures) (ap not c.if-not-allows.true))) _ l))

pub loop-p-preserved : goal.loop-p-preserved
loop-p-preserved c =
    let w = c.loop-p in
    (omega arith, first_more _ _ w.invariant.1 (w.invariant.2 _ c.loop-p-test.true ∙ when-miss _ _ (rw (← c.allows.ensures) (ap not c.if-not-allows.false))), w.invariant.2)

pub returns : goal.returns
unfolding place_count
returns c =
    let e : c.loop-p.p ≡ get_or c.args.net.words.now 0 0 = omega arith in
    ap verdict_of (sym (rw e at c.loop-p.invariant.1))
