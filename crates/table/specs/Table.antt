-- Keyed words (§2.1, §3.1): from an offset on, one key for each entry, and after all keys one value for each.
use Rattle.std.specs.Prelude.{ℕ, ◌+◌, ◌-◌, ◌<◌, List, get_or, eqb}
use Rattle.std.proofs.Math.Option.{Option}
use Rattle.scan.specs.Scan.{when, first}

module _ (words : List ℕ) (offset : ℕ) where
  unfoldable pub key_at : ℕ → ℕ
  key_at i = get_or words (offset + i) 0

  unfoldable pub value_at : ℕ → ℕ → ℕ
  value_at entries i = get_or words (offset + entries + i) 0

  -- the first of the entries with a key, or none
  unfoldable pub entry_of : ℕ → ℕ → Option ℕ
  entry_of entries key = first (λ i. when (eqb (key_at i) key) i) entries

  -- the keys rise strictly
  pub record Rising (entries : ℕ) : Type 0 where
    pub above : (i : ℕ) → i + 1 < entries → key_at i < key_at (i + 1)

  -- a key lies below the limit, and above the one before it: §2.3, §3.4
  pub record KeyPasses (limit i : ℕ) : Type 0 where
    pub low : key_at i < limit
    pub above : 0 < i → key_at (i - 1) < key_at i
