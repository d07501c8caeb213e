-- What is promised of marks and paths, as a statement on words whose arcs are right, whatever the counts are. proofs/Demands has the term.
use Rattle.std.specs.Prelude.{ℕ, ◌<◌, ◌≡◌, ◌↔◌, List, get_or}
use Rattle.scan.specs.Scan.{or_else, first}
use Rattle.automaton.specs.Reach.{Reachable}
use Rattle.refusal.specs.Checks.{AllPass}
use Rattle.refusal.specs.Verdict.{verdict_of}
use Rattle.net.specs.Checks.{IsNet}
use Rattle.sequential.specs.Petri.{petri_net}
use Rattle.sequential.specs.Words.{node_count, graph}
use Rattle.sequential.specs.Checks.{arc_word_checks}
use Rattle.sequential.specs.Check.{reach_fault, return_fault}
use Rattle.reach.specs.Reach.{AwaitMarks, reached_reply, paths_reply}

pub record PathsRight (net sheet : List ℕ) : Type 0 where
  -- the marked nodes are those that the root leads to: §6.7
  pub reached : (n : ℕ) → n < node_count sheet → (get_or (reached_reply net sheet) n 0 ≡ 1) ↔ Reachable (graph (petri_net net) sheet) n
  -- if the marks handed in are those of the await nodes, 16 and 17 are answered as §7.57 says
  pub faults : (awaits : List ℕ) → AwaitMarks (petri_net net) sheet awaits
      → paths_reply net sheet awaits ≡ verdict_of (or_else (first (reach_fault (petri_net net) sheet) (node_count sheet)) (first (return_fault (petri_net net) sheet) (node_count sheet)))

abbrev pub PathsMean : Type 0
PathsMean = (net sheet : List ℕ) → IsNet net → AllPass (arc_word_checks (petri_net net) sheet) → PathsRight net sheet
