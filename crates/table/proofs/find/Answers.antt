-- `table::find` meets its contract.
use Rattle.std.specs.Prelude.{Some, None}
use Rattle.std.specs.Bool.{then_some}
use Rattle.scan.proofs.Basics.{ℕ, arith, ◌≡◌, refl, Bool, true, false, cond}
use Rattle.scan.proofs.Tests.{lt-ltb, le-ltb}
use Rattle.table.specs.Table.{key_at}
use Rattle.table.proofs.Bisection.{lower-bound-fits}
use Rattle.table.proofs.find.Goals as goal
use Rattle.table.proofs.find.Goals.{then-i-entries, else-i-entries}

pub overflow_add-offset : goal.overflow_add-offset
overflow_add-offset c = omega (arith, lower-bound-fits _ _ _ _ (rw c.lower_bound-i.ensures at c.if-i-entries.true))

pub offset_bounds-words-offset : goal.offset_bounds-words-offset
offset_bounds-words-offset c = omega (arith, lower-bound-fits _ _ _ _ (rw c.lower_bound-i.ensures at c.if-i-entries.true))

pub bounds-words-offset : goal.bounds-words-offset
bounds-words-offset c = omega (arith, lower-bound-fits _ _ _ _ (rw c.lower_bound-i.ensures at c.if-i-entries.true))

pub returns : goal.returns
unfolding key_at Rattle.table.specs.Bisection.look_up
returns c =
    elim c.if-i-entries.branch [
      | then-i-entries w ↦ rw (c.then_some.ensures, w.then_some-is, ← c.lower_bound-i.ensures, lt-ltb _ _ w.if-i-entries.true) (then-some _ c.lower_bound-i.result)
      | else-i-entries w ↦ rw (c.then_some.ensures, w.then_some-is, ← c.lower_bound-i.ensures, le-ltb _ _ w.if-i-entries.false)
    ]
  where
    then-some : (b : Bool) (i : ℕ) → then_some b i ≡ cond b (Some i) None
    then-some true i = refl
    then-some false i = refl
