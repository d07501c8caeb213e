-- The contents of the tables that the functions hand to each other. No contract of a public function cites it.
use Rattle.std.specs.Prelude.{ℕ, ◌+◌, ◌≤◌, ◌<◌, ◌≡◌, Bool, true, cond, List, length, get_or}
use Rattle.scan.specs.Scan.{count}
use Rattle.automaton.specs.Automaton.{Automaton}
use Rattle.sequential.specs.Petri.{petri_net}
use Rattle.sequential.specs.Words.{node_count, entry_count, graph}
use Rattle.graph.specs.Readable.{Readable}
use Rattle.encoding.specs.Encoding.{keys}
use Rattle.trimmed.specs.Trim.{is_kept, new_number, trimmed_graph}
use Rattle.trimmed.specs.Entries.{entry_kept}

-- 1 plus the rank of an index among those that pass, or 0 if it does not pass
unfoldable pub rank_cell : (ℕ → Bool) → ℕ → ℕ
rank_cell p m = cond (p m) (count p m + 1) 0

-- the indices below n that pass, numbered in rising order
pub record Numbered (p : ℕ → Bool) (n : ℕ) (cells : List ℕ) (found : ℕ) : Type 0 where
  pub size : length cells ≡ 128
  pub found_is : found ≡ count p n
  pub few : found ≤ n
  pub cell : (m : ℕ) → m < n → get_or cells m 0 ≡ rank_cell p m
  pub past : (m : ℕ) → n ≤ m → get_or cells m 0 ≡ 0

-- 1 plus a kept node's new number, 0 for one that is dropped
unfoldable pub new_cell : Automaton → ℕ → ℕ
new_cell A n = cond (is_kept A n) (new_number A n + 1) 0

-- a table with the cell of each node, for readable words
pub record NewCells (net sheet cells : List ℕ) : Type 0 where
  pub readable : Readable net sheet
  pub size : length cells ≡ 128
  pub cell : (n : ℕ) → n < node_count sheet → get_or cells n 0 ≡ new_cell (graph (petri_net net) sheet) n

-- the same table, and how many nodes are kept
pub record NewNodes (net sheet cells : List ℕ) (found : ℕ) : Type 0 where
  pub new : NewCells net sheet cells
  pub found_is : found ≡ (trimmed_graph (graph (petri_net net) sheet)).nodes
  pub few : found ≤ 128

-- an entry of a kept node
pub record KeptEntry (net sheet : List ℕ) (i : ℕ) : Type 0 where
  pub entry : i < entry_count sheet
  pub kept : entry_kept (petri_net net) sheet i ≡ true

-- how many entries the trimmed schedule has
pub record Counted (net sheet : List ℕ) (entries : ℕ) : Type 0 where
  pub are : entries ≡ length (keys (petri_net net) (trimmed_graph (graph (petri_net net) sheet)))
  pub few : entries ≤ 8192
