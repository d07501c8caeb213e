-- Two graphs with the same arcs, whatever their nodes hold: §10.14.
use Rattle.std.specs.Prelude.{ℕ, ◌≡◌, List}
use Rattle.automaton.specs.Automaton.{Automaton}
use Rattle.refusal.specs.Checks.{AllPass}
use Rattle.sequential.specs.Petri.{PetriNet}
use Rattle.sequential.specs.Words.{graph}
use Rattle.sequential.specs.Checks.{sheet_checks}

pub record SameArcs (A B : Automaton) : Type 0 where
  pub nodes : A.nodes ≡ B.nodes
  pub transitions : A.transitions ≡ B.transitions
  pub arcs : (n t : ℕ) → A.arc n t ≡ B.arc n t

-- some counts fit: there are words with the same arcs that pass every check of a schedule, the limits included (§7.25)
abbrev pub CountsExist : PetriNet → List ℕ → Type 0
CountsExist N sheet = (other : List ℕ) × AllPass (sheet_checks N other) × SameArcs (graph N sheet) (graph N other)
