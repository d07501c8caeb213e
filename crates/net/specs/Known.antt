-- What is known of a net after 1 and 2, and after 1 to 4, for the functions that come after them and for proofs. No promise cites it.
use Rattle.std.specs.Prelude.{ℕ, ◌+◌, ◌*◌, ◌≤◌, ◌<◌, ◌≡◌, List, false, length, get_or}
use Rattle.table.specs.Table.{KeyPasses}
use Rattle.net.specs.Net.{key_count, weight_count, entry_weight, net_key_limit}
use Rattle.net.specs.Checks.{NetSizesPass, WeightPasses}
use Rattle.net.specs.Check.{weight_fails}

-- 1 and 2 refuse nothing
pub record ShapePasses (net : List ℕ) : Type 0 where
  pub sizes : NetSizesPass net
  pub whole : length net ≡ 3 + 2 * weight_count net

-- the same as the code reads the words
pub record Known (net : List ℕ) : Type 0 where
  pub long : length net ≡ 3 + 2 * get_or net 2 0
  pub some_place : 1 ≤ get_or net 0 0
  pub few_places : get_or net 0 0 ≤ 32
  pub some_transition : 1 ≤ get_or net 1 0
  pub few_transitions : get_or net 1 0 ≤ 32
  pub few_keys : key_count (get_or net 0 0) (get_or net 1 0) ≤ 2112
  pub few_entries : get_or net 2 0 ≤ 2112

-- what the check of entry i by 3 and 4 relies on
pub record EntryAt (net : List ℕ) (entries limit i : ℕ) : Type 0 where
  pub within : 3 + entries + i < length net
  pub entries_are : entries ≡ weight_count net
  pub limit_is : limit ≡ net_key_limit net

-- 3 and 4 refuse nothing at entry i
pub record EntryPasses (net : List ℕ) (i : ℕ) : Type 0 where
  pub key : KeyPasses net 3 (net_key_limit net) i
  pub weight : WeightPasses net i

-- 1 to 4 refuse nothing
pub record EntriesPass (net : List ℕ) : Type 0 where
  pub shape : ShapePasses net
  pub each : (i : ℕ) → i < weight_count net → EntryPasses net i

-- 4 refuses nothing at the first k entries
pub record WeightsPass (net : List ℕ) (k : ℕ) : Type 0 where
  pub each : (i : ℕ) → i < k → weight_fails (entry_weight net i) ≡ false
