-- The answer on a schedule's nodes is what it is promised to be.
use Rattle.choice.specs.Nodes.{NodesAnswer, marks_of}
use Rattle.std.specs.Prelude.{Ok}
use Rattle.scan.proofs.Basics.{ℕ, ◌<◌, ◌≡◌, sym, ap, ◌∙◌, ◌↔◌, none, List, get_or}
use Rattle.scan.proofs.Tests.{not-false}
use Rattle.scan.specs.Scan.{or_else, when, first, bit}
use Rattle.scan.proofs.First.{or_else-left, or_else-right, when-none, first-all, first-empty}
use Rattle.scan.proofs.Count.{bit-one}
use Rattle.refusal.specs.Finding.{line_finds, found_at}
use Rattle.refusal.specs.Verdict.{verdict_alone, verdict_of}
use Rattle.refusal.proofs.Verdicts.{answer-none}
use Rattle.net.proofs.Checks.{net-judged}
use Rattle.automaton.specs.Automaton.{Automaton}
use Rattle.sequential.specs.Petri.{PetriNet, petri_net}
use Rattle.sequential.specs.Only.{only}
use Rattle.sequential.specs.Tests.{is_await}
use Rattle.sequential.specs.Words.{node_count, graph}
use Rattle.sequential.specs.Schedule.{Await, OneChoiceSet}
use Rattle.sequential.specs.Check.{node_fault, root_fault}
use Rattle.sequential.proofs.Words.{arcs-hold}
use Rattle.sequential.proofs.Clauses.{await↔, one-some, one_out, one_in}
use Rattle.graph.proofs.Readable.{arcs-readable}
use Rattle.choice.specs.Demands.{NodesRight, NodesMean, TaskNodesMean}
use Rattle.choice.proofs.Right.{verdict-right, awaits-right, task-verdict-right, task-awaits-right}

-- ---- 11 to 13 find nothing

module _ (N : PetriNet) (sheet : List ℕ) where
  abbrev G : Automaton
  G = graph N sheet

  node↔ : (n : ℕ) → (node_fault N sheet n ≡ none) ↔ OneChoiceSet N G n
  unfolding node_fault line_finds found_at
  node↔ n = (
    λ e. one_out N G n (not-false _ (when-none _ _ (or_else-left _ _ e))) (not-false _ (when-none _ _ (or_else-right _ _ e))),
    λ h. unfold or_else when in (rw (one-some N G n h, one_in N G n h)),
  )

  root↔ : (root_fault N sheet ≡ none) ↔ Await N G 0
  unfolding root_fault line_finds found_at
  root↔ = (λ e. (await↔ N G 0).0 (not-false _ (when-none _ _ e)), λ h. unfold when in (rw ((await↔ N G 0).1 h)))

  nodes↔ : (or_else (first (node_fault N sheet) (node_count sheet)) (root_fault N sheet) ≡ none) ↔ (((n : ℕ) → n < node_count sheet → OneChoiceSet N G n) × Await N G 0)
  nodes↔ = (
    λ e. (λ n l. (node↔ n).0 (first-all (node_fault N sheet) (node_count sheet) (or_else-left _ _ e) n l), root↔.0 (or_else-right _ _ e)),
    λ (h, a). unfold or_else in (rw (first-empty (node_fault N sheet) (node_count sheet) (λ n l. (node↔ n).1 (h n l)), root↔.1 a)),
  )

module _ (N : PetriNet) (sheet : List ℕ) {answer : NodesAnswer} (told : verdict_alone answer ≡ verdict_of (or_else (first (node_fault N sheet) (node_count sheet)) (root_fault N sheet)))
    (marked : verdict_alone answer ≡ Ok tt → (n : ℕ) → n < node_count sheet → get_or (marks_of answer) n 0 ≡ bit (is_await N (graph N sheet) n)) where
  right : NodesRight N sheet answer
  right = record {
    accepts = (λ h. (nodes↔ N sheet).0 (answer-none _ (sym told ∙ h)), λ h. told ∙ ap verdict_of ((nodes↔ N sheet).1 h));
    marks = λ h n l. (
      λ e. (await↔ N (graph N sheet) n).0 ((bit-one _).0 (sym (marked h n l) ∙ e)),
      λ a. marked h n l ∙ (bit-one _).1 ((await↔ N (graph N sheet) n).1 a),
    );
  }

pub nodes-mean : NodesMean
nodes-mean net sheet i w =
    let r = arcs-readable ((net-judged net).accepts.1 i) (arcs-hold (petri_net net) sheet w) in
    right (petri_net net) sheet (verdict-right net sheet r) (awaits-right net sheet r)

pub task-nodes-mean : TaskNodesMean
task-nodes-mean net s sheet i w =
    let r = arcs-readable ((net-judged net).accepts.1 i) (arcs-hold (petri_net net) sheet w) in
    right (only (petri_net net) s) sheet (task-verdict-right net s sheet r) (task-awaits-right net s sheet r)
