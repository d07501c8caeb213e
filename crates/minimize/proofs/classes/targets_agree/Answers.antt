use Rattle.scan.proofs.Basics.{arith, sym, ◌∙◌}
use Rattle.scan.proofs.Every.{all_in, all_more, all-fails}
use Rattle.minimize.specs.Agree.{targets_agree}
use Rattle.minimize.proofs.classes.targets_agree.Goals as goal

pub loop-s-init : goal.loop-s-init
loop-s-init c = all_in _ _ (λ j l. absurd (omega arith))

pub returns-then-not-values_agree : goal.returns-then-not-values_agree
unfolding targets_agree
returns-then-not-values_agree c = sym (all-fails _ _ _ c.loop-s-test.true (sym c.values_agree.ensures ∙ c.if-not-values_agree.true))

pub loop-s-preserved : goal.loop-s-preserved
unfolding targets_agree
loop-s-preserved c = all_more _ _ c.loop-s.invariant (sym c.values_agree.ensures ∙ c.if-not-values_agree.false)
