-- What is promised of the look-ups, as a statement on rising keys that lie within the words. proofs/Demands has the term.
use Rattle.std.specs.Prelude.{ℕ, ◌+◌, ◌*◌, ◌≤◌, ◌<◌, ◌≡◌, List, length, get_or}
use Rattle.scan.specs.Scan.{found_or}
use Rattle.table.specs.Table.{key_at, value_at, entry_of, Rising}
use Rattle.table.specs.Bisection.{lower_bound, look_up, found_of}
use Rattle.table.specs.Row.{entry_row, value_row, entry_code}

pub record LookUps (words : List ℕ) (offset entries : ℕ) : Type 0 where
  -- the lower bound of a key: the keys before it are lower, the others are not
  pub within : (key : ℕ) → lower_bound words offset entries key ≤ entries
  pub below : (key i : ℕ) → i < lower_bound words offset entries key → key_at words offset i < key
  pub above : (key i : ℕ) → lower_bound words offset entries key ≤ i → i < entries → key ≤ key_at words offset i
  -- the entry of a key
  pub finds : (key : ℕ) → look_up words offset entries key ≡ found_of (entry_of words offset entries key)
  -- the entries of a run of keys; past the width there is none
  pub row : (first width p : ℕ) → p < 32 → p < width → get_or (entry_row words offset entries first width) p 0 ≡ entry_code (entry_of words offset entries (first + p))
  pub past : (first width p : ℕ) → p < 32 → width ≤ p → get_or (entry_row words offset entries first width) p 0 ≡ 0
  -- the values of a run of keys, if these lie within the words too
  pub value : offset + 2 * entries ≤ length words → (first width p : ℕ) → p < 32 → p < width
      → get_or (value_row words offset entries first width) p 0 ≡ found_or 0 (value_at words offset entries) (entry_of words offset entries (first + p))
  pub value_past : (first width p : ℕ) → p < 32 → width ≤ p → get_or (value_row words offset entries first width) p 0 ≡ 0

abbrev pub LookUpsMean : Type 0
LookUpsMean = (words : List ℕ) (offset entries : ℕ) → Rising words offset entries → offset + entries ≤ length words → LookUps words offset entries
