use Rattle.scan.proofs.Basics.{arith, ◌≡◌, sym}
use Rattle.scan.proofs.Tests.{not-true, not-false}
use Rattle.scan.proofs.Every.{all_in, all_more, all-fails}
use Rattle.choice.specs.Rows.{present}
use Rattle.choice.specs.Choices.{present_as_choice}
use Rattle.choice.proofs.offers.are_choice.Goals as goal

pub loop-t-init : goal.loop-t-init
loop-t-init c = (omega arith, all_in _ _ (λ j l. absurd (omega arith)))

pub returns-then-arcs-t : goal.returns-then-arcs-t
unfolding present_as_choice present
returns-then-arcs-t c = sym (all-fails _ _ _ c.loop-t-test.true (not-true _ c.if-arcs-t.true))

pub loop-t-preserved : goal.loop-t-preserved
unfolding present_as_choice present
loop-t-preserved c = (omega arith, all_more _ _ c.loop-t.invariant.1 (not-false _ c.if-arcs-t.false))

pub returns : goal.returns
returns c = let e : c.loop-t.t ≡ c.args.transitions = omega arith in sym (rw e at c.loop-t.invariant.1)
