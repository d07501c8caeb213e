-- The entries at which each node's arcs begin, and what the functions that use them rely on. No contract of a public function cites it.
use Rattle.std.specs.Prelude.{ℕ, ◌+◌, ◌*◌, ◌≤◌, ◌<◌, ◌≡◌, List, length, get_or, Ok}
use Rattle.table.specs.Bisection.{lower_bound}
use Rattle.refusal.specs.Limits.{most_nodes}
use Rattle.net.specs.Net.{transition_count}
use Rattle.sequential.specs.Petri.{petri_net}
use Rattle.sequential.specs.Words.{node_count, entry_count}
use Rattle.sequential.specs.Check.{schedule_reply}
use Rattle.reach.specs.Reach.{AwaitMarks}

abbrev pub IsNode : List ℕ → ℕ → Type 0
IsNode sheet n = n < node_count sheet

-- for each node the entry at which its arcs begin, and after the last node the entry after all arcs
pub record Starts (net sheet starts : List ℕ) : Type 0 where
  pub at : (n : ℕ) → n ≤ node_count sheet → get_or starts n 0 ≡ lower_bound sheet 2 (entry_count sheet) (n * transition_count net)

-- entry i is one of the arcs of node n
pub record ArcOf (starts : List ℕ) (n i : ℕ) : Type 0 where
  pub begun : get_or starts n 0 ≤ i
  pub ends : i < get_or starts (n + 1) 0

-- an accepted schedule, and the entries at which its nodes' arcs begin
pub record Mapped (net sheet starts : List ℕ) : Type 0 where
  pub accepted : schedule_reply net sheet ≡ Ok tt
  pub starts_are : Starts net sheet starts

-- the same with a mark at each await node
pub record Judged (net sheet starts awaits : List ℕ) : Type 0 where
  pub mapped : Mapped net sheet starts
  pub long : length awaits ≡ most_nodes
  pub marks : AwaitMarks (petri_net net) sheet awaits
