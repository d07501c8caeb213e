-- `choice::choice_sets::row_empty` meets its contract: the row has no weight before the counter.
use Rattle.scan.proofs.Basics.{◌≤◌, ◌≡◌, true}
use Rattle.scan.specs.Scan.{all}
use Rattle.choice.specs.Choices.{zero_at}
use Rattle.choice.proofs.choice_sets.row_empty.Given as goal

abbrev pub invariant-loop-p : goal.invariant-loop-p
invariant-loop-p l = (l.p ≤ l.places) × (all (zero_at l.row) l.p ≡ true)
