-- `plainly::page::Page::arc_count` meets its contract.
use Rattle.scan.proofs.Basics.{arith, ◌∙◌, sym}
use Rattle.plainly.specs.Page.{net_on, graph_on}
use Rattle.plainly.proofs.Told.{few-transitions}
use Rattle.plainly.proofs.Keys.{counted-start, counted-hit, counted-miss, counted-next, counted-all, counted-few, total-few}
use Rattle.plainly.proofs.page.Page.arc_count.Goals.{then-offers, else-offers}
use Rattle.plainly.proofs.page.Page.arc_count.Goals as goal

pub loop-n-init : goal.loop-n-init
loop-n-init c = counted-start _ _

pub loop-t-preserved : goal.loop-t-preserved
loop-t-preserved c =
    elim c.if-offers.branch [
      | then-offers w ↦ rw w.arcs-is (counted-hit _ _ (omega arith) (sym c.offers.ensures ∙ w.if-offers.true) c.loop-t.invariant)
      | else-offers w ↦ rw w.arcs-is (counted-miss _ _ (omega arith) (sym c.offers.ensures ∙ w.if-offers.false) c.loop-t.invariant)
    ]

pub loop-n-preserved : goal.loop-n-preserved
loop-n-preserved c = counted-next _ _ (omega arith) c.loop-t.invariant

pub overflow_add-arcs : goal.overflow_add-arcs
overflow_add-arcs c =
    omega (
      arith,
      counted-few _ _ c.loop-n-test.true c.loop-t-test.true c.nodes-n-end.ensures.few c.transitions-t-end.ensures.few c.transitions-t-end.ensures.is c.loop-t.invariant,
    )

pub returns : goal.returns
returns c =
    let e = counted-all _ _ (omega arith) c.loop-n.invariant in
    record { is = e; few = omega (arith, e, total-few (net_on c.args.self.now) (graph_on c.args.self.now) (omega arith) (few-transitions _ _ c.args.self.now.fit)) }
