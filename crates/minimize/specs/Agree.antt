-- When the rows of two nodes agree: at each key, both entries are missing, or both are there and their values agree.
-- No contract of a public function cites it.
use Rattle.std.specs.Prelude.{ℕ, ◌+◌, ◌*◌, ◌≤◌, ◌<◌, ◌≡◌, List, Bool, true, false, cond, ◌&&◌, ltb, eqb, length, get_or}
use Rattle.std.proofs.Math.Option.{Option, map}
use Rattle.table.specs.Table.{key_at, Rising}
use Rattle.table.specs.Bisection.{lower_bound}
use Rattle.scan.specs.Scan.{found}
use Rattle.automaton.specs.Automaton.{Automaton}
use Rattle.automaton.specs.Equivalence.{same_class, equal_arcs}
use Rattle.sequential.specs.Petri.{petri_net}
use Rattle.sequential.specs.Words.{node_count, entry_count, entry_value, entry_with_key, graph}
use Rattle.net.specs.Net.{place_count, transition_count}
use Rattle.graph.specs.Rows.{arcs_start, counts_start}
use Rattle.graph.specs.Readable.{Readable}
use Rattle.breadth_first.specs.Along.{class_in}

-- counts agree if they are equal, targets of arcs if they have the same class
unfoldable pub values_agree : List ℕ → Bool → ℕ → ℕ → Bool
values_agree classes counts = cond counts eqb (same_class (class_in classes))

module _ (sheet : List ℕ) where
  -- there is an entry i, and its key is `key`
  unfoldable pub has_key : ℕ → ℕ → Bool
  has_key i key = ltb i (entry_count sheet) && eqb (key_at sheet 2 i) key

  -- the value at a key
  unfoldable pub key_value : ℕ → Option ℕ
  key_value key = map (entry_value sheet) (entry_with_key sheet key)

  -- the entries with the keys a + t and b + t agree
  unfoldable pub keys_agree : (ℕ → ℕ → Bool) → ℕ → ℕ → ℕ → Bool
  keys_agree r a b t = equal_arcs r (key_value (a + t)) (key_value (b + t))

  -- there is an entry i, and if it is an arc, the table has its target
  pub record Valued (classes : List ℕ) (counts : Bool) (i : ℕ) : Type 0 where
    pub whole : length sheet ≡ 2 + 2 * entry_count sheet
    pub within : i < entry_count sheet
    pub target : counts ≡ false → entry_value sheet i < length classes

  -- a row of a width that begins at a key: its first entry, and its other entries
  pub record Row (classes : List ℕ) (counts : Bool) (width key i : ℕ) : Type 0 where
    pub low : key + width ≤ 8224
    pub start : i ≡ lower_bound sheet 2 (entry_count sheet) key
    pub valued : (t k : ℕ) → t < width → has_key k (key + t) ≡ true → Valued classes counts k

  pub record Rows (classes : List ℕ) (counts : Bool) (width a b i j : ℕ) : Type 0 where
    pub whole : length sheet ≡ 2 + 2 * entry_count sheet
    pub rising : Rising sheet 2 (entry_count sheet)
    pub left : Row classes counts width a i
    pub right : Row classes counts width b j

-- ---- the rows of all nodes, of their counts or of their arcs

-- the first key of node n's row (§3.5, §3.6)
unfoldable pub row_key : List ℕ → List ℕ → Bool → ℕ → ℕ
row_key net sheet counts n = cond counts (counts_start net (node_count sheet) n) (arcs_start net n)

-- how many keys a row has
unfoldable pub row_width : List ℕ → Bool → ℕ
row_width net counts = cond counts (place_count net) (transition_count net)

-- the entry at which node n's row starts
unfoldable pub first_entry : List ℕ → List ℕ → Bool → ℕ → ℕ
first_entry net sheet counts n = lower_bound sheet 2 (entry_count sheet) (row_key net sheet counts n)

-- a table with the entry at which each node's row starts
pub record StartsOf (net sheet : List ℕ) (counts : Bool) (starts : List ℕ) : Type 0 where
  pub readable : Readable net sheet
  pub start : (n : ℕ) → n < node_count sheet → get_or starts n 0 ≡ first_entry net sheet counts n

-- ---- level rows: those of two nodes that have arcs by the same transitions

unfoldable pub SameOffers : Automaton → ℕ → ℕ → Type 0
SameOffers A n m = (t : ℕ) → t < A.transitions → found (A.arc n t) ≡ found (A.arc m t)

-- the targets of entries i + s and j + s have the same class
unfoldable pub targets_agree : List ℕ → List ℕ → ℕ → ℕ → ℕ → Bool
targets_agree sheet classes i j s = values_agree classes false (entry_value sheet (i + s)) (entry_value sheet (j + s))

-- `size` entries from i on and from j on are arcs, and the table has their targets
pub record LevelRows (sheet classes : List ℕ) (size i j : ℕ) : Type 0 where
  pub left : (s : ℕ) → s < size → Valued sheet classes false (i + s)
  pub right : (s : ℕ) → s < size → Valued sheet classes false (j + s)

-- level rows are rows of arcs, by the same transitions; and n is not the last node, so that the next row tells where its row ends
pub record Level (A : Automaton) (counts : Bool) (n m : ℕ) : Type 0 where
  pub arcs : counts ≡ false
  pub inner : n + 1 < A.nodes
  pub offers : SameOffers A n m

-- the rows of two nodes
pub record TwoRows (net sheet starts classes : List ℕ) (counts level : Bool) (n m : ℕ) : Type 0 where
  pub of : StartsOf net sheet counts starts
  pub long : length classes ≡ 128
  pub left : n < node_count sheet
  pub right : m < node_count sheet
  pub even : level ≡ true → Level (graph (petri_net net) sheet) counts n m
