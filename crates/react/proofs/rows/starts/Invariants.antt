-- `react::rows::starts` meets its contract: the nodes before the counter have their starts.
use Rattle.scan.proofs.Basics.{ℕ, ◌*◌, ◌≤◌, ◌<◌, ◌≡◌, length, get_or}
use Rattle.table.specs.Bisection.{lower_bound}
use Rattle.net.specs.Net.{transition_count}
use Rattle.react.proofs.rows.starts.Given as goal

abbrev pub invariant-loop-n : goal.invariant-loop-n
invariant-loop-n l =
    (length l.starts ≡ 129) × (l.n ≤ l.nodes) × (l.nodes ≤ 128) × ((k : ℕ) → k < l.n → get_or l.starts k 0 ≡ lower_bound l.sheet 2 l.entries (k
    * transition_count l.net))
