-- How long a list of firings lasts, and how many of them there are: one firing follows another, so durations add up (§10.45).
use Rattle.std.specs.Prelude.{ℕ, ◌+◌, List, [], ◌∷◌}

-- the sum of the durations that d gives to the transitions of a list
unfoldable pub lasting : (ℕ → ℕ) → List ℕ → ℕ
lasting d [] = 0
lasting d (t ∷ σ) = d t + lasting d σ

-- a duration of 1 for every transition: with it a list lasts as long as it has firings
abbrev pub each : ℕ → ℕ
each t = 1
