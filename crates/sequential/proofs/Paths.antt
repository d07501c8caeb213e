-- Paths of at most V - 1 firings: to every node that is reached, and to an await node if some path leads to one.
use Rattle.scan.proofs.Basics.{ℕ, ◌<◌, List}
use Rattle.automaton.proofs.Reach.{reachable-short}
use Rattle.automaton.proofs.Lead.{leads-short}
use Rattle.sequential.specs.Petri.{PetriNet}
use Rattle.sequential.specs.Words.{node_count, graph}
use Rattle.sequential.specs.Tests.{is_await}
use Rattle.sequential.specs.Known.{ArcsHold}
use Rattle.sequential.specs.Runs.{ShortWhereAny}
use Rattle.sequential.proofs.Entries.{graph-closed}
use Rattle.sequential.proofs.Clauses.{await↔}
use Rattle.sequential.proofs.Faults.{leads-await}

module _ (N : PetriNet) (sheet : List ℕ) (T : 0 < N.transitions) (w : ArcsHold N sheet) where
  pub short-where : (n : ℕ) → n < node_count sheet → ShortWhereAny N (graph N sheet) n
  short-where n l = record {
    reached = reachable-short (graph N sheet) (graph-closed N sheet T w) n;
    returns = λ a.
        let (σ, k, m, e, g) = leads-short (graph N sheet) (is_await N (graph N sheet)) (graph-closed N sheet T w) n l ((leads-await N (graph N sheet) n).1 a) in
        (σ, m, k, e, (await↔ N (graph N sheet) m).0 g);
  }
