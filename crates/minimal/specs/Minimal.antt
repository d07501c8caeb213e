-- The minimal form of a schedule: the words (§11.6) of the minimal automaton of its graph; and what holds of it.
use Rattle.std.specs.Prelude.{ℕ, ◌≤◌, ◌≡◌, List}
use Rattle.automaton.specs.BreadthFirst.{BreadthFirst}
use Rattle.automaton.specs.Quotient.{minimal, Quotient, Renumbering}
use Rattle.sequential.specs.Petri.{PetriNet, petri_net}
use Rattle.sequential.specs.Words.{node_count, graph}
use Rattle.encoding.specs.Encoding.{encode}

unfoldable pub minimal_form : List ℕ → List ℕ → List ℕ
minimal_form net sheet = encode (petri_net net) (minimal (graph (petri_net net) sheet))

-- its graph is the quotient (§11.3), numbered breadth first (§11.5)
pub record QuotientForm (N : PetriNet) (sheet form : List ℕ) : Type 0 where
  pub number : ℕ → ℕ
  pub quotient : Quotient (graph N sheet) (graph N form) number
  pub breadth_first : BreadthFirst (graph N form)

-- another schedule has no fewer nodes; if it has as many, it differs only in their numbers
pub record Fewest (N : PetriNet) (form other : List ℕ) : Type 0 where
  pub fewest : node_count form ≤ node_count other
  pub renumbered : node_count other ≡ node_count form → (f : ℕ → ℕ) × Renumbering (graph N other) (graph N form) f
