-- `table::keys_rise` meets its contract: where nothing was found, the keys before the counter rise up to it, and only there.
use Rattle.scan.proofs.Basics.{ℕ, ◌+◌, ◌≤◌, ◌<◌, ◌≡◌, ◌↔◌, true}
use Rattle.table.specs.Table.{key_at}
use Rattle.table.proofs.keys_rise.Given as goal

abbrev pub invariant-loop-i : goal.invariant-loop-i
invariant-loop-i l = (l.i ≤ l.entries + 1) × ((l.rise ≡ true) ↔ ((j : ℕ) → j + 1 < l.i → key_at l.words l.offset j < key_at l.words l.offset (j + 1)))
