-- Faults at the nodes of a schedule, and marks at its await nodes, on any words: by the net and the graph that `Rows` defines.
-- If the arcs are readable, these are refusals 11 to 13 and the await nodes (Demands, `NodesMean`).
use Rattle.refusal.specs.declared.Reason.TheVariants.{NoArc, NotOneChoiceSet, RootNotAwait}
use Rattle.std.specs.Prelude.{ℕ, List, Bool, not, ◌&&◌, replicate, ltb, Err, Ok, Result}
use Rattle.std.proofs.Math.Option.{Option, none, some}
use Rattle.scan.specs.Scan.{or_else, when, first, tabulate, bit}
use Rattle.refusal.specs.Limits.{most_nodes}
use Rattle.refusal.specs.Refusal.{refusal}
use Rattle.refusal.specs.declared.Position.TheVariants.{Node}
use Rattle.refusal.specs.declared.Refusal.{Refusal}
use Rattle.automaton.specs.Automaton.{Automaton}
use Rattle.sequential.specs.Petri.{PetriNet}
use Rattle.sequential.specs.Tests.{is_await, offers_some, offers_one_choice_set}
use Rattle.sequential.specs.Only.{only}
use Rattle.choice.specs.Rows.{net_by_rows, graph_by_rows}

module _ (N : PetriNet) (A : Automaton) where
  -- §7.11 and §7.12 at node n
  unfoldable pub offer_fault : ℕ → Option Refusal
  offer_fault n = or_else (when (not (offers_some N A n)) (refusal NoArc (Node n))) (when (not (offers_one_choice_set N A n)) (refusal NotOneChoiceSet (Node n)))

  -- whether m is an await node (§5.4) and below n
  unfoldable pub awaits_below : ℕ → ℕ → Bool
  awaits_below n m = ltb m n && is_await N A m

  -- these faults at all nodes, then §7.13
  unfoldable pub offers_fault : Option Refusal
  offers_fault = or_else (first offer_fault A.nodes) (when (not (awaits_below A.nodes 0)) (refusal RootNotAwait (Node 0)))

  -- 1 at each await node below n
  unfoldable pub await_mark : ℕ → ℕ → ℕ
  await_mark n m = bit (awaits_below n m)

  unfoldable pub await_marks : List ℕ
  await_marks = tabulate (await_mark A.nodes) most_nodes

-- the marks of the await nodes, or a refusal
abbrev pub NodesAnswer : Type 0
NodesAnswer = Result (List ℕ) Refusal

-- a refusal comes with no marks
abbrev pub marks_of : NodesAnswer → List ℕ
marks_of (Ok marks) = marks
marks_of (Err r) = replicate most_nodes 0

abbrev pub marked_or : List ℕ → Option Refusal → NodesAnswer
marked_or marks none = Ok marks
marked_or marks (some r) = Err r

unfoldable pub nodes_reply : List ℕ → List ℕ → NodesAnswer
nodes_reply net sheet =
    let N = net_by_rows net in
    let A = graph_by_rows net sheet in
    marked_or (await_marks N A) (offers_fault N A)

-- the same with all sources but s removed
unfoldable pub task_nodes_reply : List ℕ → ℕ → List ℕ → NodesAnswer
task_nodes_reply net s sheet =
    let N = only (net_by_rows net) s in
    let A = graph_by_rows net sheet in
    marked_or (await_marks N A) (offers_fault N A)
