-- The net's words, §2.1 to §2.8 and §2.10, and what a source is, §2.9.
use Rattle.std.specs.Prelude.{ℕ, ◌+◌, ◌*◌, ◌≤◌, ◌≡◌, List, Bool, cond, ◌&&◌, get_or, ltb, eqb}
use Rattle.std.proofs.Math.Option.{Option, none, some, map}
use Rattle.scan.specs.Scan.{found_or, all, any}
use Rattle.table.specs.Table.{key_at, value_at, entry_of}

-- how many keys there are, in 2 × T + 2 rows of P: §2.2
abbrev pub key_count : ℕ → ℕ → ℕ
key_count places transitions = (2 * transitions + 2) * places

-- a count is at most a capacity, if there is one: §2.10
abbrev pub Within : Option ℕ → ℕ → Type 0
Within capacity n = (c : ℕ) → capacity ≡ some c → n ≤ c

-- §2.1; a word that is missing counts as 0
module _ (net : List ℕ) where
  unfoldable pub place_count : ℕ
  place_count = get_or net 0 0

  unfoldable pub transition_count : ℕ
  transition_count = get_or net 1 0

  unfoldable pub weight_count : ℕ
  weight_count = get_or net 2 0

  unfoldable pub weight_key : ℕ → ℕ
  weight_key i = key_at net 3 i

  unfoldable pub entry_weight : ℕ → ℕ
  entry_weight i = value_at net 3 weight_count i

  -- the bound of K (§2.2) and of the keys (§2.3)
  unfoldable pub net_key_limit : ℕ
  net_key_limit = key_count place_count transition_count

  -- the weight of a key, 0 if the key is absent: §2.8
  unfoldable pub weight_at : ℕ → ℕ
  weight_at key = found_or 0 entry_weight (entry_of net 3 weight_count key)

  -- T rows of P keys for what transitions take (§2.5), T rows for what they put (§2.6), one for what places start with (§2.7); 0 for what is no transition or place
  unfoldable pub taken : ℕ → ℕ → ℕ
  taken t p = cond (ltb t transition_count && ltb p place_count) (weight_at (t * place_count + p)) 0

  unfoldable pub put : ℕ → ℕ → ℕ
  put t p = cond (ltb t transition_count && ltb p place_count) (weight_at ((transition_count + t) * place_count + p)) 0

  unfoldable pub start : ℕ → ℕ
  start p = cond (ltb p place_count) (weight_at (2 * transition_count * place_count + p)) 0

  -- one row more for the capacities of places (§2.10); a place whose key is absent has none, and so has what is no place
  unfoldable pub capacity : ℕ → Option ℕ
  capacity p = cond (ltb p place_count) (map entry_weight (entry_of net 3 weight_count ((2 * transition_count + 1) * place_count + p))) none

  -- §2.9
  unfoldable pub takes_nothing : ℕ → ℕ → Bool
  takes_nothing t p = eqb (taken t p) 0

  unfoldable pub is_source : ℕ → Bool
  is_source t = all (takes_nothing t) place_count

  unfoldable pub has_source : Bool
  has_source = any is_source transition_count
