-- `replay::look_up::first_keys` meets its contract: the nodes before the counter have their keys.
use Rattle.scan.proofs.Basics.{ℕ, ◌≤◌, ◌<◌, ◌≡◌, length, get_or}
use Rattle.graph.specs.Rows.{arcs_start}
use Rattle.replay.proofs.look_up.first_keys.Given as goal

abbrev pub invariant-loop-n : goal.invariant-loop-n
invariant-loop-n l = (length l.keys ≡ 128) × (l.n ≤ l.nodes) × (l.nodes ≤ 128) × ((k : ℕ) → k < l.n → get_or l.keys k 0 ≡ arcs_start l.net k)
