use Rattle.scan.proofs.Basics.{arith, ◌≡◌, sym}
use Rattle.scan.proofs.Tests.{eq-eqb, ne_eqb}
use Rattle.scan.proofs.Every.{all_in, all_more, all-fails}
use Rattle.choice.specs.Choices.{zero_at}
use Rattle.choice.proofs.choice_sets.row_empty.Goals as goal

pub loop-p-init : goal.loop-p-init
loop-p-init c = (omega arith, all_in _ _ (λ j l. absurd (omega arith)))

pub returns-then-row-p-ne0 : goal.returns-then-row-p-ne0
unfolding zero_at
returns-then-row-p-ne0 c = sym (all-fails _ _ _ c.loop-p-test.true (ne_eqb _ _ c.if-row-p-ne0.true))

pub loop-p-preserved : goal.loop-p-preserved
unfolding zero_at
loop-p-preserved c = (omega arith, all_more _ _ c.loop-p.invariant.1 (eq-eqb _ _ c.if-row-p-ne0.false))

pub returns : goal.returns
returns c = let e : c.loop-p.p ≡ c.args.places = omega arith in sym (rw e at c.loop-p.invariant.1)
