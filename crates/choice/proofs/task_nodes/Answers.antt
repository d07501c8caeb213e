use Rattle.scan.proofs.Basics.{arith, refl}
use Rattle.choice.proofs.Answer.{ground-is, offering, row-tells, refused-at, passes_at, busy-root, all_pass}
use Rattle.choice.proofs.task_nodes.Goals as goal

pub walked-walk-requires : goal.walked-walk-requires
walked-walk-requires c =
    let sheet = c.args.sheet.now in
    record { offering = offering (ground-is {sheet = sheet} c.choices_only-choices.ensures c.transitions-transitions.ensures c.node_count-nodes.ensures); nodes_value = c.node_count-nodes.ensures }

pub loop-n-init : goal.loop-n-init
loop-n-init c =
    let w = c.walked-walk.ensures in
    (w.within, w.passing _ (ground-is c.choices_only-choices.ensures c.transitions-transitions.ensures c.node_count-nodes.ensures))

pub offer_at-offer-requires : goal.offer_at-offer-requires
offer_at-offer-requires c = c.loop-n.invariant.1.ground.few_transitions

pub returns-in-Nothing : goal.returns-in-Nothing
returns-in-Nothing c =
    let (m, s) = c.loop-n.invariant in
    refused-at s _ _ c.loop-n-test.true
    (rw c.in-Nothing.is at (row-tells s.ground _ _ _ refl c.offer_at-offer.ensures)) refl

pub returns-in-Torn : goal.returns-in-Torn
returns-in-Torn c =
    let (m, s) = c.loop-n.invariant in
    refused-at s _ _ c.loop-n-test.true
    (rw c.in-Torn.is at (row-tells s.ground _ _ _ refl c.offer_at-offer.ensures)) refl

pub loop-n-preserved : goal.loop-n-preserved
loop-n-preserved c =
    let (m, s) = c.loop-n.invariant in (
      omega arith,
      passes_at s _ _ c.loop-n-test.true
          (rw c.in-Whole.is at (row-tells s.ground _ _ _ refl c.offer_at-offer.ensures)) c.mark_if.ensures,
    )

pub returns-then-awaits-eq0 : goal.returns-then-awaits-eq0
returns-then-awaits-eq0 c = busy-root c.loop-n.invariant.1 _ (omega arith) c.if-awaits-eq0.true refl

pub returns : goal.returns
returns c = all_pass c.loop-n.invariant.1 (omega arith) (omega arith)
