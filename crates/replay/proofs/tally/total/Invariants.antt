-- `replay::tally::total` meets its contract: the numbers before the counter are added.
use Rattle.scan.proofs.Basics.{◌≤◌, ◌≡◌}
use Rattle.scan.specs.Scan.{sum}
use Rattle.replay.specs.Tally.{at}
use Rattle.replay.proofs.tally.total.Given as goal

abbrev pub invariant-loop-p : goal.invariant-loop-p
invariant-loop-p l = (l.p ≤ l.n) × (l.all ≡ sum (at l.row) l.p)
