-- `choice::choice_sets::rows_equal` meets its contract: the rows are equal at the places before the counter.
use Rattle.scan.proofs.Basics.{◌≤◌, ◌≡◌, true}
use Rattle.scan.specs.Scan.{all}
use Rattle.choice.specs.Choices.{equal_at}
use Rattle.choice.proofs.choice_sets.rows_equal.Given as goal

abbrev pub invariant-loop-p : goal.invariant-loop-p
invariant-loop-p l = (l.p ≤ l.places) × (all (equal_at l.a l.b) l.p ≡ true)
