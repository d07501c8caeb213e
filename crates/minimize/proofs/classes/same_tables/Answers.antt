use Rattle.scan.proofs.Basics.{arith, refl, sym, ◌∙◌}
use Rattle.scan.proofs.Every.{all_in, all-next}
use Rattle.breadth_first.specs.Along.{class_in}
use Rattle.minimize.specs.Leaders.{same_entry}
use Rattle.minimize.proofs.classes.same_tables.Goals as goal

pub loop-n-init : goal.loop-n-init
loop-n-init c = sym (all_in _ _ (λ j l. absurd (omega arith)))

pub loop-n-preserved : goal.loop-n-preserved
unfolding same_entry class_in
loop-n-preserved c = sym (all-next _ _ ∙ rw (← c.loop-n.invariant) refl)
