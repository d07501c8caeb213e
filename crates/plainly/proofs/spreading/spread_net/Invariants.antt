-- `plainly::spreading::spread_net` meets its contract.
use Rattle.scan.proofs.Basics.{ℕ, ◌<◌, ◌≡◌, get_or, length}
use lib.IntN.{pos}
use Rattle.plainly.specs.Numbers.{taken_cell, change_cell}
use Rattle.plainly.proofs.spreading.spread_net.Given as goal

abbrev pub invariant-loop-i : goal.invariant-loop-i
invariant-loop-i l =
    (length l.taken ≡ 1024) × (length l.change ≡ 1024)
    × ((j : ℕ) → j < l.i → get_or l.taken j 0 ≡ taken_cell l.net j) × ((j : ℕ) → j < l.i → get_or l.change j (pos 0) ≡ change_cell l.net j)
