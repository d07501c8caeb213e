-- `replay::look_up::arc_starts` meets its contract: the nodes before the counter have their starts.
use Rattle.scan.proofs.Basics.{ℕ, ◌≤◌, ◌<◌, ◌≡◌, length, get_or}
use Rattle.table.specs.Bisection.{lower_bound}
use Rattle.graph.specs.Rows.{arcs_start}
use Rattle.replay.proofs.look_up.arc_starts.Given as goal

abbrev pub invariant-loop-n : goal.invariant-loop-n
invariant-loop-n l = (length l.starts ≡ 128) × (l.n ≤ l.nodes) × (l.nodes ≤ 128) × ((k : ℕ) → k < l.n → get_or l.starts k 0 ≡ lower_bound l.sheet 2 l.entries (arcs_start l.net k))
