-- `net::capacity_check::overfull_fault` meets its contract: the places before the counter start within their capacities.
use Rattle.refusal.specs.declared.Reason.TheVariants.{StartOverCapacity}
use Rattle.scan.proofs.Basics.{ℕ, ◌≤◌, ◌<◌, ◌≡◌, not, none, get_or}
use Rattle.scan.specs.Scan.{first, when}
use Rattle.refusal.specs.Refusal.{refusal}
use Rattle.refusal.specs.declared.Position.TheVariants.{Place}
use Rattle.net.specs.Check.{overfull_fault}
use Rattle.net.specs.Accessors.{word_allows}
use Rattle.net.proofs.capacity_check.overfull_fault.Given as goal

abbrev pub invariant-loop-p : goal.invariant-loop-p
invariant-loop-p l =
    (l.p ≤ l.places) × (first (overfull_fault l.net.words.now) l.p ≡ none)
    × ((q : ℕ) → q < l.places → overfull_fault l.net.words.now q ≡ when (not (word_allows (get_or l.capacities q 0) (get_or l.starts q 0))) (refusal StartOverCapacity (Place q)))
