-- `choice::choice_sets::first_places` meets its contract: the transitions before the counter have their places.
use Rattle.scan.proofs.Basics.{ℕ, ◌≤◌, ◌<◌, ◌≡◌, length, get_or}
use Rattle.scan.specs.Scan.{least}
use Rattle.net.specs.Accessors.{taken_row_reply}
use Rattle.choice.specs.Choices.{weighs_at}
use Rattle.choice.proofs.choice_sets.first_places.Given as goal

abbrev pub invariant-loop-i : goal.invariant-loop-i
invariant-loop-i l = (l.i ≤ l.transitions) × (l.transitions ≤ 32) × (length l.firsts ≡ 32) × ((t : ℕ) → t < l.i → get_or l.firsts t 0 ≡ least (weighs_at (taken_row_reply l.net t)) l.places)
