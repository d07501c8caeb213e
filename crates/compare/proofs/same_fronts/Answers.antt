use Rattle.scan.proofs.Basics.{arith, ◌≡◌, refl, sym, ◌∙◌}
use Rattle.scan.proofs.Tests.{eq-eqb, ne_eqb}
use Rattle.scan.specs.Scan.{all}
use Rattle.scan.proofs.Every.{all-fails, all-keeps}
use Rattle.compare.specs.Compare.{same_at, same_fronts}
use Rattle.compare.proofs.same_fronts.Goals as goal
use Rattle.compare.proofs.same_fronts.Goals.{else-one-i, then-one-i}

pub returns-then-first-second : goal.returns-then-first-second
unfolding same_fronts
returns-then-first-second c = rw (ne_eqb _ _ c.if-first-second.true)

pub loop-i-init : goal.loop-i-init
unfolding all
loop-i-init c = (omega arith, refl)

pub loop-i-preserved : goal.loop-i-preserved
unfolding same_at
loop-i-preserved c =
    let (l, e) = c.loop-i.invariant in (
      omega arith,
      elim c.if-one-i.branch [
        | then-one-i w ↦ w.alike-is ∙ sym (all-fails _ _ c.loop-i.i (omega arith) (ne_eqb _ _ w.if-one-i.true))
        | else-one-i w ↦ w.alike-is ∙ e ∙ all-keeps _ _
            (eq-eqb _ _ w.if-one-i.false)
      ],
    )

pub returns : goal.returns
unfolding same_fronts
returns c =
    let (l, e) = c.loop-i.invariant in
    let q : c.loop-i.i ≡ c.args.first = omega arith in
    rw (eq-eqb _ _ c.if-first-second.false) (rw q at e)
