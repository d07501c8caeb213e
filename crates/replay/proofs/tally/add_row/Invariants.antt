-- `replay::tally::add_row` meets its contract: the row is right before the counter.
use Rattle.scan.proofs.Basics.{ℕ, ◌≤◌, ◌<◌, ◌≡◌, length, get_or}
use Rattle.replay.specs.Tally.{added}
use Rattle.replay.proofs.tally.add_row.Given as goal

abbrev pub invariant-loop-p : goal.invariant-loop-p
invariant-loop-p l = (l.p ≤ 32) × (length l.next ≡ 32) × ((j : ℕ) → j < l.p → get_or l.next j 0 ≡ added l.sums l.row l.times j)
