-- `plainly::spreading::spread_sheet` meets its contract.
use Rattle.scan.proofs.Basics.{ℕ, ◌≤◌, ◌<◌, ◌≡◌, get_or}
use Rattle.sequential.specs.Petri.{petri_net}
use Rattle.plainly.specs.Numbers.{cell_of}
use Rattle.plainly.proofs.spreading.spread_sheet.Given as goal

abbrev pub invariant-loop-k : goal.invariant-loop-k
invariant-loop-k l =
    ((j : ℕ) → j < l.k → get_or l.grid j 0 ≡ cell_of (petri_net l.net) l.sheet j) × ((j : ℕ) → 8192 ≤ j → get_or l.grid j 0 ≡ get_or l.initial.grid j 0)
