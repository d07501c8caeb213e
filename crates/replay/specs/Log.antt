-- A log of firings as words (§10.10): N, then N transitions, then N nodes. And what its firings take and put (§10.12).
use Rattle.std.specs.Prelude.{ℕ, ◌+◌, List, get_or}
use Rattle.scan.specs.Scan.{sum, tabulate}

module _ (log : List ℕ) where
  unfoldable pub firing_count : ℕ
  firing_count = get_or log 0 0

  -- the transition of firing i, and the node that it is said to reach
  unfoldable pub fired_at : ℕ → ℕ
  fired_at i = get_or log (1 + i) 0

  unfoldable pub logged_at : ℕ → ℕ
  logged_at i = get_or log (1 + firing_count + i) 0

  -- the transitions of the first n firings, and of all
  unfoldable pub firings_to : ℕ → List ℕ
  firings_to n = tabulate fired_at n

  abbrev pub firings : List ℕ
  firings = firings_to firing_count

-- `moves t p` is what transition t takes from place p (§2.5), or what it puts there (§2.6)
module _ (moves : ℕ → ℕ → ℕ) (log : List ℕ) where
  -- by firing i at place p
  unfoldable pub moved_by : ℕ → ℕ → ℕ
  moved_by p i = moves (fired_at log i) p

  -- by all firings at place p
  unfoldable pub moved : ℕ → ℕ
  moved p = sum (moved_by p) (firing_count log)
