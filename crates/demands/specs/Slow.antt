-- What is promised of the slow engine (§10.40, request #111): every number that it spreads is one of the words' (§10.41), and for any net and
-- schedule it answers what the schedule check answers (§10.42). `spreading::spread_net` and `spreading::spread_sheet` of `plainly` ensure that the code
-- spreads these numbers; no function after them takes the words. proofs/Slow has a term for the record.
use Rattle.std.specs.Prelude.{ℕ, ◌+◌, ◌*◌, ◌≤◌, ◌<◌, ◌≡◌, ◌⊎◌, List, [], get_or, pos, ◌-ℤ◌}
use Rattle.std.proofs.Math.Option
use Rattle.scan.specs.Scan.{found_or}
use Rattle.refusal.specs.Limits.{scratch_limit}
use Rattle.net.specs.Net as words
use Rattle.net.specs.Net.{place_count, transition_count, put, start, capacity}
use Rattle.sequential.specs.Words.{node_count, entry_value, entry_with_key}
use Rattle.judge.specs.Answer.{plain_check, CheckAnswer}
use Rattle.lending.specs.Demands.{EveryCall}
use Rattle.schedule.specs.Calls.{CheckDone}
use Rattle.plainly.specs.Numbers.{plus_one, NetSpread, GridSpread}
use Rattle.plainly.specs.Calls.{SlowDone}
use Rattle.plainly.specs.declared.Spread.{Spread}
use Rattle.demands.specs.Terms.{all_checks}

-- ---- the tables: each cell is a weight of the net, or 0 if its key is absent

module _ (net : List ℕ) where
  abbrev P : ℕ
  P = place_count net

  abbrev T : ℕ
  T = transition_count net

  pub record TablesRight (s : Spread) : Type 0 where
    pub sizes : (s.places ≡ P) × (s.transitions ≡ T)
    -- what a place starts with (§2.7), and its capacity, 0 for none (§2.10)
    pub starts : (p : ℕ) → p < P → get_or s.starts p 0 ≡ start net p
    pub capacities : (p : ℕ) → p < P → get_or s.capacities p 0 ≡ Option.get_or (capacity net p) 0
    -- what a transition takes (§2.5); and what it puts (§2.6) less what it takes, a number with a sign
    pub taken : (t p : ℕ) → t < T → p < P → get_or s.taken (t * 32 + p) 0 ≡ words.taken net t p
    pub change : (t p : ℕ) → t < T → p < P → get_or s.change (t * 32 + p) (pos 0) ≡ pos (put net t p) -ℤ pos (words.taken net t p)
    -- all other cells are 0
    pub past : (p : ℕ) → P ≤ p → p < 32 → (get_or s.starts p 0 ≡ 0) × (get_or s.capacities p 0 ≡ 0)
    pub others : (t p : ℕ) → t < 32 → p < 32 → (T ≤ t) ⊎ (P ≤ p) → (get_or s.taken (t * 32 + p) 0 ≡ 0) × (get_or s.change (t * 32 + p) (pos 0) ≡ pos 0)

  -- ---- the grid: each cell is a value of the schedule by its key

  pub record GridRight (sheet grid : List ℕ) : Type 0 where
    -- the target plus 1, or 0 if there is no arc: §3.5, §3.7
    pub arcs : (n t : ℕ) → n < node_count sheet → t < T → get_or grid (n * 64 + t) 0 ≡ found_or 0 (λ i. plus_one (entry_value sheet i)) (entry_with_key sheet (n * T + t))
    -- the count, or 0 if its key is absent: §3.6, §3.8
    pub counts : (n p : ℕ) → n < node_count sheet → p < P
        → get_or grid (n * 64 + 32 + p) 0 ≡ found_or 0 (entry_value sheet) (entry_with_key sheet (node_count sheet * T + n * P + p))
    -- all other cells of its 128 rows are 0
    pub no_arcs : (n t : ℕ) → n < 128 → t < 32 → (node_count sheet ≤ n) ⊎ (T ≤ t) → get_or grid (n * 64 + t) 0 ≡ 0
    pub no_counts : (n p : ℕ) → n < 128 → p < 32 → (node_count sheet ≤ n) ⊎ (P ≤ p) → get_or grid (n * 64 + 32 + p) 0 ≡ 0

-- ---- the answer

pub record Same (slow fast : CheckAnswer) (slow-scratch fast-scratch : List ℕ) : Type 0 where
  pub answer : slow ≡ fast
  pub scratch : slow-scratch ≡ fast-scratch

pub record SlowDemand : Type 0 where
  -- the tables and the grid, for words whose sizes are within the limits
  pub tables : (net : List ℕ) (s : Spread) → place_count net ≤ 32 → transition_count net ≤ 32 → NetSpread net s → TablesRight net s
  pub grid : (net sheet grid : List ℕ) → place_count net ≤ 32 → transition_count net ≤ 32 → node_count sheet ≤ 128 → GridSpread net sheet grid → GridRight net sheet grid
  -- it does what every call does (§13.1), by the checks of the schedule check
  pub every : (net sheet : List ℕ) → EveryCall {Left = Unit} scratch_limit plain_check (all_checks net sheet []) tt (λ s a left s'. SlowDone net sheet s a s')
  -- the schedule check gives the same answer (number, kind, position and counts), whatever words and scratch are lent, and leaves the same in scratch
  pub alike : (net sheet scratch s₁ s₂ : List ℕ) (a b : CheckAnswer) → SlowDone net sheet scratch a s₁ → CheckDone net sheet scratch b s₂ → Same a b s₁ s₂
