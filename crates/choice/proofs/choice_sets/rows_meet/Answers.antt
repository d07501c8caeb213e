use Rattle.scan.proofs.Basics.{arith, ◌≡◌, sym}
use Rattle.scan.proofs.Every.{any-none-yet, any-in, any-more}
use Rattle.choice.specs.Choices.{both_at}
use Rattle.choice.proofs.choice_sets.rows_meet.Goals as goal

pub loop-p-init : goal.loop-p-init
loop-p-init c = (omega arith, any-none-yet _)

pub returns-then-a-p : goal.returns-then-a-p
unfolding both_at
returns-then-a-p c = sym (any-in _ _ _ c.loop-p-test.true c.if-a-p.true)

pub loop-p-preserved : goal.loop-p-preserved
unfolding both_at
loop-p-preserved c = (omega arith, any-more _ _ c.loop-p.invariant.1 c.if-a-p.false)

pub returns : goal.returns
returns c = let e : c.loop-p.p ≡ c.args.places = omega arith in sym (rw e at c.loop-p.invariant.1)
