-- `choice::offers::first_present` meets its contract: no transition before the counter has an arc.
use Rattle.scan.proofs.Basics.{◌≤◌, ◌≡◌, false}
use Rattle.scan.specs.Scan.{any}
use Rattle.choice.specs.Rows.{present}
use Rattle.choice.proofs.offers.first_present.Given as goal

abbrev pub invariant-loop-t : goal.invariant-loop-t
invariant-loop-t l = (l.t ≤ l.transitions) × (any (present l.arcs) l.t ≡ false)
