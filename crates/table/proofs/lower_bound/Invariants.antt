-- `table::lower_bound` meets its contract: each turn of the loop is a turn of `bisect`.
use Rattle.scan.proofs.Basics.{◌-◌, ◌≤◌, ◌≡◌}
use Rattle.table.specs.Bisection.{bisect, key_below}
use Rattle.table.proofs.lower_bound.Given as goal

abbrev pub invariant-loop-low : goal.invariant-loop-low
invariant-loop-low l = (l.low ≤ l.high) × (l.high ≤ l.entries) × (bisect (key_below l.words l.offset l.key) l.entries l.low l.high ≡ bisect (key_below l.words l.offset l.key) l.entries 0 l.entries)

abbrev pub decreases-loop-low : goal.decreases-loop-low
decreases-loop-low l = l.high - l.low
