-- `choice::walk::whole_end` meets its contract: below the counter the row that the entries make is the choice set's.
use Rattle.scan.proofs.Basics.{◌≤◌}
use Rattle.choice.proofs.Whole.{Matching}
use Rattle.choice.proofs.walk.whole_end.Given as goal

abbrev pub invariant-loop-t : goal.invariant-loop-t
invariant-loop-t l = (l.t ≤ l.transitions) × Matching l.sheet l.leaders l.transitions l.first l.c l.i l.t
