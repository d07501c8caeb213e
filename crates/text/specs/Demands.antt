-- What is promised of decimal text, as a statement: §12.7. proofs/Demands has the term.
use Rattle.std.specs.Prelude.{ℕ, ◌+◌, ◌*◌, ◌-◌, ◌≤◌, ◌<◌, ◌≡◌, List, [], ◌∷◌, length, get_or}
use Rattle.text.specs.Decimal.{digit, decimal}

-- the number that is read when digits follow those of n
unfoldable pub read_on : ℕ → List ℕ → ℕ
read_on n [] = n
read_on n (b ∷ bytes) = read_on (10 * n + (b - digit 0)) bytes

pub record DecimalRight (n : ℕ) : Type 0 where
  pub reads : read_on 0 (decimal n) ≡ n
  pub digits : (i : ℕ) → i < length (decimal n) → (digit 0 ≤ get_or (decimal n) i 0) × (get_or (decimal n) i 0 ≤ digit 9)
  pub no_zero_first : 0 < n → digit 0 < get_or (decimal n) 0 0

abbrev pub DecimalMeans : Type 0
DecimalMeans = (n : ℕ) → DecimalRight n
