-- Deterministic automata with labelled nodes, and the finite lists of transitions that a node allows.
use Rattle.std.specs.Prelude.{ℕ, ◌≤◌, ◌<◌, ◌≡◌, Bool, List, [], ◌∷◌}
use Rattle.std.proofs.Math.Option.{Option, none, some}
use Rattle.scan.specs.Scan.{found, found_or}

-- Nodes are 0 to nodes - 1, and the root is 0 (§3.3); transitions are 0 to transitions - 1. `none` stands for no arc (§3.7). A node's label is its marking (§4.1).
pub record Automaton : Type 0 where
  pub nodes : ℕ
  pub transitions : ℕ
  pub arc : ℕ → ℕ → Option ℕ
  pub label : ℕ → List ℕ

-- The root is a node, arcs of nodes lead to nodes (§3.5), and what is no transition has no arc (§3.7).
pub record Closed (A : Automaton) : Type 0 where
  pub root : 0 < A.nodes
  pub lands : (n t m : ℕ) → n < A.nodes → A.arc n t ≡ some m → m < A.nodes
  pub bounded : (n t : ℕ) → A.transitions ≤ t → A.arc n t ≡ none

-- The node to which a list leads from node n, if it can be followed. The list may hold any numbers (§11.1).
unfoldable pub follow : Automaton → ℕ → List ℕ → Option ℕ
follow A n [] = some n
follow A n (t ∷ σ) = found_or none (λ m. follow A m σ) (A.arc n t)

-- Node n allows a list: §11.2.
unfoldable pub allows : Automaton → ℕ → List ℕ → Bool
allows A n σ = found (follow A n σ)

-- The lists that node n of A allows are those that node m of B allows.
unfoldable pub SameLists : Automaton → Automaton → ℕ → ℕ → Type 0
SameLists A B n m = (σ : List ℕ) → allows A n σ ≡ allows B m σ
