-- What the look-up of a firing's arc relies on. No contract of a public function cites it.
use Rattle.std.specs.Prelude.{ℕ, ◌+◌, ◌*◌, ◌≤◌, ◌<◌, ◌≡◌, List, length, get_or}
use Rattle.table.specs.Bisection.{lower_bound}
use Rattle.net.specs.Net.{transition_count}
use Rattle.sequential.specs.Words.{node_count, entry_count}
use Rattle.graph.specs.Readable.{ArcsReadable}
use Rattle.graph.specs.Rows.{arcs_start}

-- for each node, the first key of its arcs: §3.5
pub record FirstKeys (net sheet keys : List ℕ) : Type 0 where
  pub key : (n : ℕ) → n < node_count sheet → get_or keys n 0 ≡ arcs_start net n

-- for each node, the entry at which its arcs begin
pub record ArcStarts (net sheet starts : List ℕ) : Type 0 where
  pub start : (n : ℕ) → n < node_count sheet → get_or starts n 0 ≡ lower_bound sheet 2 (entry_count sheet) (arcs_start net n)

-- both tables, T, and a node
pub record LooksUp (net sheet keys starts : List ℕ) (transitions node : ℕ) : Type 0 where
  pub readable : ArcsReadable net sheet
  pub keys_are : FirstKeys net sheet keys
  pub starts_are : ArcStarts net sheet starts
  pub all : transitions ≡ transition_count net
  pub at_node : node < node_count sheet

-- ranks that may be wrong, but are small enough for a guess made with one to fit its type
pub record Ranks (ranks : List ℕ) : Type 0 where
  pub long : length ranks ≡ 32
  pub low : (t : ℕ) → t < 32 → get_or ranks t 0 ≤ 4096

-- an entry of words that have their right length
pub record EntryThere (sheet : List ℕ) (e : ℕ) : Type 0 where
  pub whole : length sheet ≡ 2 + 2 * entry_count sheet
  pub there : e < entry_count sheet
