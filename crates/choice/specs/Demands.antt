-- What is promised of the answer on a schedule's nodes, as a statement. It holds of words that pass 1 to 8 and 26, and 9 at arcs; counts are not looked at. proofs/Demands has the term.
use Rattle.std.specs.Prelude.{ℕ, ◌<◌, ◌≡◌, ◌↔◌, List, get_or, Ok}
use Rattle.refusal.specs.Verdict.{verdict_alone}
use Rattle.refusal.specs.Checks.{AllPass}
use Rattle.net.specs.Checks.{IsNet}
use Rattle.sequential.specs.Petri.{PetriNet, petri_net}
use Rattle.sequential.specs.Only.{only}
use Rattle.sequential.specs.Words.{node_count, graph}
use Rattle.sequential.specs.Schedule.{Await, OneChoiceSet}
use Rattle.sequential.specs.Checks.{arc_word_checks}
use Rattle.choice.specs.Nodes.{NodesAnswer, marks_of, nodes_reply, task_nodes_reply}

-- nothing is refused exactly if each node offers one choice set and node 0 is an await node (§6.3, §6.4); then the marks are those of the await nodes (§5.4)
pub record NodesRight (N : PetriNet) (sheet : List ℕ) (answer : NodesAnswer) : Type 0 where
  pub accepts : (verdict_alone answer ≡ Ok tt) ↔ (((n : ℕ) → n < node_count sheet → OneChoiceSet N (graph N sheet) n) × Await N (graph N sheet) 0)
  pub marks : verdict_alone answer ≡ Ok tt → (n : ℕ) → n < node_count sheet → (get_or (marks_of answer) n 0 ≡ 1) ↔ Await N (graph N sheet) n

abbrev pub NodesMean : Type 0
NodesMean = (net sheet : List ℕ) → IsNet net → AllPass (arc_word_checks (petri_net net) sheet)
    → NodesRight (petri_net net) sheet (nodes_reply net sheet)

-- the same of a schedule of the net from which all sources but s are removed
abbrev pub TaskNodesMean : Type 0
TaskNodesMean = (net : List ℕ) (s : ℕ) (sheet : List ℕ) → IsNet net → AllPass (arc_word_checks (petri_net net) sheet)
    → NodesRight (only (petri_net net) s) sheet (task_nodes_reply net s sheet)
