use Rattle.scan.proofs.Basics.{arith, ◌≡◌, sym}
use Rattle.scan.proofs.Tests.{lt-ltb, le-ltb}
use Rattle.scan.proofs.Every.{any-none-yet, any-more}
use Rattle.scan.proofs.Least.{least-found, least-none}
use Rattle.choice.specs.Choices.{weighs_at}
use Rattle.choice.proofs.choice_sets.first_weight.Goals as goal

pub loop-p-init : goal.loop-p-init
loop-p-init c = (omega arith, any-none-yet _)

pub overflow_cast-result : goal.overflow_cast-result
overflow_cast-result c = omega (arith, c.requires)

pub returns-then-row-p-gt0 : goal.returns-then-row-p-gt0
unfolding weighs_at
returns-then-row-p-gt0 c = sym (least-found _ _ _ c.loop-p.invariant.1 (lt-ltb _ _ c.if-row-p-gt0.true) c.loop-p-test.true)

pub loop-p-preserved : goal.loop-p-preserved
unfolding weighs_at
loop-p-preserved c = (omega arith, any-more _ _ c.loop-p.invariant.1 (le-ltb _ _ c.if-row-p-gt0.false))

pub returns : goal.returns
returns c = let e : c.loop-p.p ≡ c.args.places = omega arith in sym (least-none _ _ (rw e at c.loop-p.invariant.1))
