-- `choice::choice_sets::rows_meet` meets its contract: the rows meet at no place before the counter.
use Rattle.scan.proofs.Basics.{◌≤◌, ◌≡◌, false}
use Rattle.scan.specs.Scan.{any}
use Rattle.choice.specs.Choices.{both_at}
use Rattle.choice.proofs.choice_sets.rows_meet.Given as goal

abbrev pub invariant-loop-p : goal.invariant-loop-p
invariant-loop-p l = (l.p ≤ l.places) × (any (both_at l.a l.b) l.p ≡ false)
