use Rattle.scan.proofs.Basics.{rules, sym, ◌∙◌}
use Rattle.scan.proofs.Tests.{not-true, not-false}
use Rattle.minimize.proofs.Agree.{walk_start, walk-differ, walk-miss, walk-apart, walk-hit}
use Rattle.minimize.proofs.classes.rows_agree.Goals as goal
use Rattle.minimize.proofs.classes.rows_agree.Goals.{then-there+else-not-values_agree, else-there}

pub loop-t-init : goal.loop-t-init
loop-t-init c = search (walk_start, rules)

pub returns-then-there-has_key : goal.returns-then-there-has_key
returns-then-there-has_key c = search (walk-differ, not-true, rules)

pub returns-then-not-values_agree : goal.returns-then-not-values_agree
returns-then-not-values_agree c = let apart = sym c.values_agree.ensures ∙ c.if-not-values_agree.true in search (walk-apart, not-false, rules)

pub loop-t-preserved : goal.loop-t-preserved
loop-t-preserved c =
    let e = not-false _ c.if-there-has_key.false in
    elim c.if-there.branch [
      | then-there+else-not-values_agree w ↦ rw (w.x-is, w.y-is) (walk-hit c.loop-t.invariant c.loop-t-test.true c.has_key-there.ensures c.has_key.ensures e w.if-there.true
          (sym w.values_agree.ensures ∙ w.if-not-values_agree.false))
      | else-there w ↦ rw (w.x-is, w.y-is) (walk-miss c.loop-t.invariant c.loop-t-test.true c.has_key-there.ensures c.has_key.ensures e w.if-there.false)
    ]
