-- `choice::walk::set_ends` meets its contract: the ends are those of the transitions before the counter.
use Rattle.scan.proofs.Basics.{◌≤◌}
use Rattle.choice.proofs.Whole.{EndsBelow}
use Rattle.choice.proofs.walk.set_ends.Given as goal

abbrev pub invariant-loop-t : goal.invariant-loop-t
invariant-loop-t l = (l.t ≤ l.transitions) × EndsBelow l.leaders l.ends l.t
