use Rattle.scan.proofs.Basics.{arith, ◌≡◌, sym}
use Rattle.scan.proofs.Tests.{lt-ltb, le-ltb}
use Rattle.scan.proofs.Every.{any-none-yet, any-more}
use Rattle.scan.proofs.Least.{least-found, least-none}
use Rattle.choice.specs.Rows.{present}
use Rattle.choice.proofs.offers.first_present.Goals as goal

pub loop-t-init : goal.loop-t-init
loop-t-init c = (omega arith, any-none-yet _)

pub returns-then-arcs-t-gt0 : goal.returns-then-arcs-t-gt0
unfolding present
returns-then-arcs-t-gt0 c = sym (least-found _ _ _ c.loop-t.invariant.1 (lt-ltb _ _ c.if-arcs-t-gt0.true) c.loop-t-test.true)

pub loop-t-preserved : goal.loop-t-preserved
unfolding present
loop-t-preserved c = (omega arith, any-more _ _ c.loop-t.invariant.1 (le-ltb _ _ c.if-arcs-t-gt0.false))

pub returns : goal.returns
returns c = let e : c.loop-t.t ≡ c.args.transitions = omega arith in sym (least-none _ _ (rw e at c.loop-t.invariant.1))
