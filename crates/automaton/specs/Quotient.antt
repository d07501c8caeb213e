-- The minimal automaton: one node for each class of equivalent nodes that the root reaches, numbered breadth first.
use Rattle.std.specs.Prelude.{ℕ, ◌≤◌, ◌<◌, ◌≡◌, ◌↔◌, Bool, cond, List, [], ltb, length, get_or}
use Rattle.std.proofs.Math.Option.{none, map}
use Rattle.automaton.specs.Automaton.{Automaton, Closed}
use Rattle.automaton.specs.Reach.{Reachable}
use Rattle.automaton.specs.Equivalence.{Equivalent, Fires, same}
use Rattle.automaton.specs.BreadthFirst.{BreadthFirst, index_of, order}

-- Each element of xs stands for its class by a test r. The automaton of these classes: arcs go from class to class, and a class has the label of its element.
-- It has no arc and no label past its nodes, so that two such automata with the same nodes, arcs and labels are equal.
unfoldable pub merged : (ℕ → ℕ → Bool) → Automaton → List ℕ → Automaton
merged r A xs = record {
  nodes = length xs;
  transitions = A.transitions;
  arc = λ i t. cond (ltb i (length xs)) (map (index_of r xs) (A.arc (get_or xs i 0) t)) none;
  label = λ i. cond (ltb i (length xs)) (A.label (get_or xs i 0)) [];
}

-- the automaton of the classes that the root reaches
unfoldable pub minimal_by : (ℕ → ℕ → Bool) → Automaton → Automaton
minimal_by r A = merged r A (order r A)

-- the minimal automaton: merged by §11.3, numbered by §11.5
unfoldable pub minimal : Automaton → Automaton
minimal A = minimal_by (same A) A

-- the number of a node's class in it
unfoldable pub class_number : Automaton → ℕ → ℕ
class_number A n = index_of (same A) (order (same A) A) n

-- the old node that stands for new node i
abbrev pub representative : Automaton → ℕ → ℕ
representative A i = get_or (order (same A) A) i 0

-- §11.3: f takes the reached nodes of A onto the nodes of M, the root to the root, and carries arcs and labels over.
pub record Quotient (A M : Automaton) (f : ℕ → ℕ) : Type 0 where
  pub root : f 0 ≡ 0
  pub node : (n : ℕ) → Reachable A n → f n < M.nodes
  pub onto : (i : ℕ) → i < M.nodes → (n : ℕ) × Reachable A n × (f n ≡ i)
  pub merges : (n m : ℕ) → Reachable A n → Reachable A m → (f n ≡ f m) ↔ Equivalent A A n m
  pub arcs : (n t : ℕ) → Reachable A n → M.arc (f n) t ≡ map f (A.arc n t)
  pub labels : (n : ℕ) → Reachable A n → M.label (f n) ≡ A.label n

-- no two nodes are equivalent
unfoldable pub Reduced : Automaton → Type 0
Reduced A = (n m : ℕ) → n < A.nodes → m < A.nodes → Equivalent A A n m → n ≡ m

-- only nodes have arcs and labels
pub record Confined (A : Automaton) : Type 0 where
  pub arcs : (n t : ℕ) → A.nodes ≤ n → A.arc n t ≡ none
  pub labels : (n : ℕ) → A.nodes ≤ n → A.label n ≡ []

-- The form that `minimal` makes. Of all automata that allow the same lists, only one has it.
pub record Canonical (fire : List ℕ → ℕ → List ℕ) (A : Automaton) : Type 0 where
  pub closed : Closed A
  pub fires : Fires fire A
  pub breadth_first : BreadthFirst A
  pub reduced : Reduced A
  pub confined : Confined A

-- A and M differ only in the numbers of their nodes, and the root keeps its number.
pub record Renumbering (A M : Automaton) (f : ℕ → ℕ) : Type 0 where
  pub root : f 0 ≡ 0
  pub node : (n : ℕ) → n < A.nodes → f n < M.nodes
  pub injective : (n m : ℕ) → n < A.nodes → m < A.nodes → f n ≡ f m → n ≡ m
  pub onto : (i : ℕ) → i < M.nodes → (n : ℕ) × (n < A.nodes) × (f n ≡ i)
  pub arcs : (n t : ℕ) → n < A.nodes → M.arc (f n) t ≡ map f (A.arc n t)
  pub labels : (n : ℕ) → n < A.nodes → M.label (f n) ≡ A.label n
