-- If the arcs are readable, the answer is what §7.11 to §7.13 and §5.4 say of the schedule's graph.
use Rattle.std.specs.Prelude.{Ok}
use Rattle.scan.proofs.Basics.{ℕ, ◌≤◌, ◌<◌, arith, ◌≡◌, refl, sym, ap, Option, none, some, List, get_or}
use Prim.Native.Nat.{min}
use Rattle.net.specs.Net.{transition_count}
use Rattle.scan.proofs.Tests.{lt-ltb, le-ltb}
use Rattle.scan.specs.Scan.{or_else, first, bit}
use Rattle.scan.proofs.Tabulate.{tabulate-at}
use Rattle.refusal.specs.Finding.{line_finds, found_at}
use Rattle.refusal.specs.Verdict.{verdict_alone, verdict_of}
use Rattle.refusal.specs.declared.Refusal.{Refusal}
use Rattle.automaton.specs.Automaton.{Automaton}
use Rattle.sequential.specs.Petri.{PetriNet, petri_net}
use Rattle.sequential.specs.Words.{node_count, graph}
use Rattle.sequential.specs.Tests.{is_await}
use Rattle.sequential.specs.Only.{is_source_of, only}
use Rattle.sequential.proofs.Only.{only-whole, graph-only}
use Rattle.sequential.specs.Check.{node_fault, root_fault}
use Rattle.graph.specs.Readable.{ArcsReadable}
use Rattle.choice.specs.Nodes.{NodesAnswer, marks_of, offer_fault, awaits_below, offers_fault, await_mark, await_marks, marked_or, nodes_reply, task_nodes_reply}
use Rattle.choice.specs.Rows.{net_by_rows, graph_by_rows}
use Rattle.choice.proofs.Rows.{net-told, graph-told}

-- the two parts of an answer
of-fault : (marks : List ℕ) (o : Option Refusal) → verdict_alone (marked_or marks o) ≡ verdict_of o
of-fault marks none = refl
of-fault marks (some x) = refl

of-accepted : (marks : List ℕ) (o : Option Refusal) → verdict_alone (marked_or marks o) ≡ Ok tt → marks_of (marked_or marks o) ≡ marks
of-accepted marks none h = refl
of-accepted marks (some x) h = absurd (let z : ◌≡◌ {A = ℕ} 0 1 = cc in omega arith)

-- the whole net
pub whole-nodes : (net sheet : List ℕ) → task_nodes_reply net 32 sheet ≡ nodes_reply net sheet
unfolding task_nodes_reply nodes_reply
whole-nodes net sheet =
    ap (λ (N : PetriNet). marked_or (await_marks N (graph_by_rows net sheet)) (offers_fault N (graph_by_rows net sheet)))
    (only-whole (net_by_rows net) 32 (unfold is_source_of net_by_rows in (rw (le-ltb 32 (min (transition_count net) 32) (omega arith)))))

-- what is found at the nodes, and marked there, as of a schedule of N
module _ (N : PetriNet) (sheet : List ℕ) (some_node : 1 ≤ node_count sheet) (few_nodes : node_count sheet ≤ 128) where
  abbrev G : Automaton
  G = graph N sheet

  abbrev faults : Option Refusal
  faults = or_else (first (node_fault N sheet) (node_count sheet)) (root_fault N sheet)

  faults-are : offers_fault N G ≡ faults
  unfolding offers_fault offer_fault node_fault root_fault awaits_below line_finds found_at
  faults-are = rw (lt-ltb 0 (node_count sheet) some_node)

  module _ {answer : NodesAnswer} (told : answer ≡ marked_or (await_marks N G) (offers_fault N G)) where
    verdict-as : verdict_alone answer ≡ verdict_of faults
    verdict-as = rw (told, faults-are) (of-fault (await_marks N G) faults)

    awaits-as : verdict_alone answer ≡ Ok tt → (n : ℕ) → n < node_count sheet → get_or (marks_of answer) n 0 ≡ bit (is_await N G n)
    unfolding await_marks await_mark awaits_below
    awaits-as h n l =
        let marks : marks_of answer ≡ await_marks N G = rw told (of-accepted (await_marks N G) (offers_fault N G) (rw told at h)) in
        rw (marks, tabulate-at (await_mark N G (node_count sheet)) 0 128 n (omega arith), lt-ltb n (node_count sheet) l)

module _ (net : List ℕ) (s : ℕ) (sheet : List ℕ) (r : ArcsReadable net sheet) where
  abbrev M : PetriNet
  M = only (petri_net net) s

  nodes-right : task_nodes_reply net s sheet ≡ marked_or (await_marks M (graph M sheet)) (offers_fault M (graph M sheet))
  unfolding task_nodes_reply
  nodes-right =
      rw (net-told net r.accepted, graph-told net sheet r)
      (ap (λ (A : Automaton). marked_or (await_marks M A) (offers_fault M A)) (sym (graph-only (petri_net net) s sheet)))

  pub task-verdict-right : verdict_alone (task_nodes_reply net s sheet) ≡ verdict_of (or_else (first (node_fault M sheet) (node_count sheet)) (root_fault M sheet))
  task-verdict-right = verdict-as M sheet r.sizes.some_node r.sizes.few_nodes nodes-right

  pub task-awaits-right : verdict_alone (task_nodes_reply net s sheet) ≡ Ok tt → (n : ℕ) → n < node_count sheet
      → get_or (marks_of (task_nodes_reply net s sheet)) n 0 ≡ bit (is_await M (graph M sheet) n)
  task-awaits-right = awaits-as M sheet r.sizes.some_node r.sizes.few_nodes nodes-right

module _ (net sheet : List ℕ) (r : ArcsReadable net sheet) where
  whole-right : nodes_reply net sheet ≡ marked_or (await_marks (petri_net net) (graph (petri_net net) sheet)) (offers_fault (petri_net net) (graph (petri_net net) sheet))
  unfolding nodes_reply
  whole-right = rw (net-told net r.accepted, graph-told net sheet r)

  pub verdict-right : verdict_alone (nodes_reply net sheet) ≡ verdict_of (or_else (first (node_fault (petri_net net) sheet) (node_count sheet)) (root_fault (petri_net net) sheet))
  verdict-right = verdict-as (petri_net net) sheet r.sizes.some_node r.sizes.few_nodes whole-right

  pub awaits-right : verdict_alone (nodes_reply net sheet) ≡ Ok tt → (n : ℕ) → n < node_count sheet
      → get_or (marks_of (nodes_reply net sheet)) n 0 ≡ bit (is_await (petri_net net) (graph (petri_net net) sheet) n)
  awaits-right = awaits-as (petri_net net) sheet r.sizes.some_node r.sizes.few_nodes whole-right
