-- What the schedule check answers: §10.3.
use Rattle.refusal.specs.Verdict.{verdict_alone}
use Rattle.choice.specs.Nodes.{NodesAnswer, marks_of}
use Rattle.std.specs.Prelude.{ℕ, ◌≡◌, List, [], ◌∷◌, Err, Ok, Result}
use Rattle.refusal.specs.Refusal.{plain_answer, Verdict}
use Rattle.refusal.specs.declared.Refusal.{Refusal}
use Rattle.sequential.specs.Petri.{petri_net}
use Rattle.sequential.specs.Words.{node_count}
use Rattle.sequential.specs.Check.{arc_count, await_count, task_reply}
use Rattle.sequential.specs.Only.{only}
use Rattle.reach.specs.Reach.{AwaitMarks}
use Rattle.judge.specs.declared.Counts.{Counts}

unfoldable pub counts_of : List ℕ → List ℕ → Counts
counts_of net sheet = record { nodes = node_count sheet; arcs = arc_count (petri_net net) sheet; awaits = await_count (petri_net net) sheet }

-- the numbers of an accepted schedule, or a refusal
abbrev pub CheckAnswer : Type 0
CheckAnswer = Result Counts Refusal

abbrev pub check_answer : Verdict → Counts → CheckAnswer
check_answer (Ok tt) numbers = Ok numbers
check_answer (Err r) numbers = Err r

-- number, kind, position, nodes, arcs, await nodes (§8.1); the last three are 0 if refused (§8.3)
abbrev pub check_numbers : Counts → List ℕ
check_numbers c = c.nodes ∷ c.arcs ∷ c.awaits ∷ []

abbrev pub plain_check : CheckAnswer → List ℕ
plain_check answer = plain_answer check_numbers answer

-- ---- what the three public functions are built on: the verdict, and marks at the await nodes of an accepted schedule

pub record Judged (net : List ℕ) (s : ℕ) (sheet : List ℕ) (answer : NodesAnswer) : Type 0 where
  pub reply : verdict_alone answer ≡ task_reply net s sheet
  pub marks : task_reply net s sheet ≡ Ok tt → AwaitMarks (only (petri_net net) s) sheet (marks_of answer)
