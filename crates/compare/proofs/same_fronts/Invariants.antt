-- `compare::same_fronts` meets its contract: it is known whether the words before the counter are equal.
use Rattle.scan.proofs.Basics.{◌≤◌, ◌≡◌}
use Rattle.scan.specs.Scan.{all}
use Rattle.compare.specs.Compare.{same_at}
use Rattle.compare.proofs.same_fronts.Given as goal

abbrev pub invariant-loop-i : goal.invariant-loop-i
invariant-loop-i l = (l.i ≤ l.first) × (l.alike ≡ all (same_at l.one l.two) l.i)
