use Rattle.scan.proofs.Basics.{◌<◌, arith, ◌≡◌, sym, ◌∙◌}
use Rattle.scan.proofs.Least.{least-found, least-none}
use Rattle.automaton.specs.Equivalence.{in_class, leader_by}
use Rattle.sequential.specs.Words.{node_count}
use Rattle.breadth_first.specs.Along.{class_in}
use Rattle.minimize.proofs.Leaders.{leader-from, leader-not, leader-not-own, split-other-class, split-by-rows, node_low, own-class-low}
use Rattle.minimize.proofs.classes.leader.Goals as goal
use Rattle.minimize.proofs.classes.leader.Goals.{then-classes-m+then-next-m+else-nodes_agree, else-classes-m}
use Rattle.minimize.proofs.classes.leader.Goals.{else-classes-m-via-then-classes-m+else-next-m, else-classes-m-via-else-classes-m}

pub loop-m-init : goal.loop-m-init
unfolding class_in
loop-m-init c =
    let r = c.requires.round in let at = c.requires.round_at in
    let low = own-class-low r at.node in
    (node_low r at.node, leader-from _ _ _ _ (λ m l e. let z = r.least m _ (omega (arith, low)) at.node e in omega arith))

pub nodes_agree-requires : goal.nodes_agree-requires
unfolding class_in
nodes_agree-requires c =
    let r = c.requires.round in let at = c.requires.round_at in
    let less = c.loop-m-test.true in
    let m : c.loop-m.m < node_count c.args.sheet.now = omega (arith, less, at.node) in
    record {
      of = r.of;
      long = r.long;
      left = m;
      right = at.node;
      even = λ e. record { arcs = r.arcs e; inner = omega (arith, less); offers = r.offers e _ _ m at.node c.if-classes-m.true };
    }

pub returns-then-nodes_agree : goal.returns-then-nodes_agree
unfolding leader_by in_class class_in
returns-then-nodes_agree c =
    let agree = split-by-rows _ _ _ _ _ c.if-classes-m.true ∙ sym c.nodes_agree.ensures ∙ c.if-nodes_agree.true in
    sym (least-found _ _ _ c.loop-m.invariant.1 agree c.loop-m-test.true)

pub loop-m-preserved : goal.loop-m-preserved
unfolding class_in
loop-m-preserved c =
    let (low, none) = c.loop-m.invariant in
    let led = c.requires.round_at.led.leads _ c.loop-m-test.true in (
      low,
      elim c.if-classes-m.branch [
        | then-classes-m+then-next-m+else-nodes_agree w ↦ leader-not _ _ _ none (split-by-rows _ _ _ _ _ w.if-classes-m.true ∙ sym w.nodes_agree.ensures ∙ w.if-nodes_agree.false)
        | else-classes-m w ↦ elim w.else-classes-m.branch [
          | else-classes-m-via-then-classes-m+else-next-m v ↦ leader-not-own _ _ _ _ _ none (λ e. v.if-next-m.false (led ∙ e))
          | else-classes-m-via-else-classes-m v ↦ leader-not _ _ _ none (split-other-class _ _ _ _ _ v.if-classes-m.false)
        ]
      ],
    )

pub returns : goal.returns
unfolding leader_by
returns c =
    let w = c.loop-m in
    let e : w.m ≡ c.args.n = omega (arith, own-class-low c.requires.round c.requires.round_at.node) in
    sym (least-none _ _ (rw e at w.invariant.1))
