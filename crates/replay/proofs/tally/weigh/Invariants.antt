-- `replay::tally::weigh` meets its contract: the sums are those of the transitions before the counter.
use Rattle.replay.proofs.Sides.{Weighing}
use Rattle.replay.proofs.tally.weigh.Given as goal

abbrev pub invariant-loop-t : goal.invariant-loop-t
invariant-loop-t l = Weighing l.net l.parikh l.putting l.transitions l.sums l.t
