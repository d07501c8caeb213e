-- The words of reaction times: the durations that are read (§10.45), and the report that is written (§10.48).
use Rattle.std.specs.Prelude.{ℕ, zero, suc, ◌+◌, ◌*◌, ◌≤◌, ◌≡◌, Bool, cond, List, [], ◌∷◌, ◌++◌, length, get_or}
use Rattle.scan.specs.Scan.{found_or, count}
use Rattle.automaton.specs.Automaton.{Automaton}
use Rattle.reaction.specs.ToGo.{best, worst}

-- the longest duration, in seconds: §10.45
abbrev pub most_duration : ℕ
most_duration = 1000000

-- ---- durations (§10.45): their number, then the earliest ones, then the latest ones. A missing word counts as 0.

module _ (durations : List ℕ) where
  unfoldable pub duration_count : ℕ
  duration_count = get_or durations 0 0

  unfoldable pub early : ℕ → ℕ
  early t = get_or durations (1 + t) 0

  unfoldable pub late : ℕ → ℕ
  late t = get_or durations (1 + duration_count + t) 0

  -- §7.32 at one transition
  pub record DurationPasses (t : ℕ) : Type 0 where
    pub early_fits : early t ≤ most_duration
    pub late_fits : late t ≤ most_duration
    pub ordered : early t ≤ late t

  -- §7.32 of their number and their length
  pub record ShapePasses (transitions : ℕ) : Type 0 where
    pub same : duration_count ≡ transitions
    pub whole : length durations ≡ 1 + 2 * transitions

-- ---- the report (§10.48): two words for every await node with every source of its own, nodes rising and sources rising within a node

-- the lists f 0, f 1, .. one after the other
unfoldable pub strung : (ℕ → List ℕ) → ℕ → List ℕ
strung f zero = []
strung f (suc n) = strung f n ++ f n

module _ (A : Automaton) (await : ℕ → Bool) (early late : ℕ → ℕ) where
  unfoldable pub pair_at : ℕ → ℕ → List ℕ
  pair_at n t = cond (await n) (found_or [] (λ m. (early t + best A await early m) ∷ (late t + worst A await late m) ∷ []) (A.arc n t)) []

  unfoldable pub row_at : ℕ → List ℕ
  row_at n = strung (pair_at n) A.transitions

  unfoldable pub report : List ℕ
  report = strung row_at A.nodes

-- the index of the pair of await node n and source t: after the pairs of all lower await nodes, and those of lower sources at n
unfoldable pub place_of : (ℕ → Bool) → (ℕ → Bool) → ℕ → ℕ → ℕ → ℕ
place_of await source transitions n t = 2 * (count await n * count source transitions) + 2 * count source t
