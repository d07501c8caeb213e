-- `choice::choice_sets::first_weight` meets its contract: no place before the counter has a weight.
use Rattle.scan.proofs.Basics.{◌≤◌, ◌≡◌, false}
use Rattle.scan.specs.Scan.{any}
use Rattle.choice.specs.Choices.{weighs_at}
use Rattle.choice.proofs.choice_sets.first_weight.Given as goal

abbrev pub invariant-loop-p : goal.invariant-loop-p
invariant-loop-p l = (l.p ≤ l.places) × (any (weighs_at l.row) l.p ≡ false)
