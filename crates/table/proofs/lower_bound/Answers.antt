use Rattle.scan.proofs.Basics.{arith, refl, sym, ◌∙◌}
use Rattle.scan.proofs.Tests.{lt-ltb, le-ltb}
use Rattle.table.specs.Table.{key_at}
use Rattle.table.specs.Bisection.{key_below}
use Rattle.table.proofs.Bisection.{turn_up, turn-down, bisect-met, lower-bound-bisects, lower-bound-unfit}
use Rattle.table.proofs.lower_bound.Goals as goal

pub returns-then-words-offset : goal.returns-then-words-offset
returns-then-words-offset c = lower-bound-unfit _ _ _ _ (omega arith)

pub loop-low-init : goal.loop-low-init
loop-low-init c = (omega arith, omega arith, refl)

pub loop-low-preserved-then-words-offset-3 : goal.loop-low-preserved-then-words-offset-3
unfolding key_below key_at
loop-low-preserved-then-words-offset-3 c = (
  omega arith,
  omega arith,
  sym (turn_up _ _ _ _ c.loop-low-test.true (omega arith) (lt-ltb _ _ c.if-words-offset-3.true)) ∙ c.loop-low.invariant.2,
)

pub loop-low-preserved : goal.loop-low-preserved
unfolding key_below key_at
loop-low-preserved c = (
  omega arith,
  omega arith,
  sym (turn-down _ _ _ _ c.loop-low-test.true (omega arith) (le-ltb _ _ c.if-words-offset-3.false)) ∙ c.loop-low.invariant.2,
)

pub returns : goal.returns
returns c = sym (bisect-met _ _ _ _ c.loop-low-test.false) ∙ c.loop-low.invariant.2 ∙ sym (lower-bound-bisects _ _ _ _ (omega arith))
