-- How far the nodes are passed: nothing is found before node n, and the marks are those of the await nodes below n. No contract of a public function cites it.
use Rattle.std.specs.Prelude.{ℕ, ◌≤◌, ◌≡◌, List}
use Rattle.std.proofs.Math.Option.{none}
use Rattle.scan.specs.Scan.{first, tabulate}
use Rattle.refusal.specs.Limits.{most_nodes, most_transitions}
use Rattle.sequential.specs.Only.{only}
use Rattle.choice.specs.Rows.{net_by_rows, graph_by_rows}
use Rattle.choice.specs.Choices.{ChoicesOf}
use Rattle.choice.specs.Nodes.{offer_fault, await_mark}

-- what does not change in it
pub record Ground (net : List ℕ) (s : ℕ) (sheet leaders : List ℕ) (source transitions nodes : ℕ) : Type 0 where
  pub choices : ChoicesOf (only (net_by_rows net) s) leaders source
  pub transitions_are : transitions ≡ (net_by_rows net).transitions
  pub nodes_are : nodes ≡ (graph_by_rows net sheet).nodes
  pub few_nodes : nodes ≤ most_nodes
  pub few_transitions : transitions ≤ most_transitions

pub record Passing (net : List ℕ) (s : ℕ) (sheet leaders : List ℕ) (source transitions nodes : ℕ) (awaits : List ℕ) (n : ℕ) : Type 0 where
  pub ground : Ground net s sheet leaders source transitions nodes
  pub passed : first (offer_fault (only (net_by_rows net) s) (graph_by_rows net sheet)) n ≡ none
  pub marks : awaits ≡ tabulate (await_mark (only (net_by_rows net) s) (graph_by_rows net sheet) n) most_nodes

-- n nodes are passed, whichever source is left, if the table is that of the choice sets then
pub record Walked (net sheet leaders : List ℕ) (source transitions nodes : ℕ) (awaits : List ℕ) (n : ℕ) : Type 0 where
  pub within : n ≤ nodes
  pub passing : (s : ℕ) → Ground net s sheet leaders source transitions nodes → Passing net s sheet leaders source transitions nodes awaits n
