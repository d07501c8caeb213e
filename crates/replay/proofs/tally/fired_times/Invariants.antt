-- `replay::tally::fired_times` meets its contract: each transition is counted as often as it fires before the counter.
use Rattle.replay.proofs.Sides.{Counting}
use Rattle.replay.proofs.tally.fired_times.Given as goal

abbrev pub invariant-loop-i : goal.invariant-loop-i
invariant-loop-i l = Counting l.log l.n l.parikh l.i
