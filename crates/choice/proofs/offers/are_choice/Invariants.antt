-- `choice::offers::are_choice` meets its contract: the arcs before the counter are those of the choice set.
use Rattle.scan.proofs.Basics.{◌≤◌, ◌≡◌, true}
use Rattle.scan.specs.Scan.{all}
use Rattle.choice.specs.Choices.{present_as_choice}
use Rattle.choice.proofs.offers.are_choice.Given as goal

abbrev pub invariant-loop-t : goal.invariant-loop-t
invariant-loop-t l = (l.t ≤ l.transitions) × (all (present_as_choice l.arcs l.leaders l.c) l.t ≡ true)
