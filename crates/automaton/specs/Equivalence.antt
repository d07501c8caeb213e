-- Equivalent nodes, and how their classes are computed: refined round by round, each class known by its least node.
use Rattle.std.specs.Prelude.{ℕ, zero, suc, ◌<◌, ◌≡◌, Bool, true, false, ◌&&◌, List, [], ◌∷◌, eqb, get_or}
use Rattle.std.proofs.Math.Option.{Option, none, some}
use Rattle.scan.specs.Scan.{all, least, tabulate}
use Rattle.automaton.specs.Automaton.{Automaton, SameLists}

-- when two nodes become one: §11.3, with both of its halves (§11.4)
pub record Equivalent (A B : Automaton) (n m : ℕ) : Type 0 where
  pub labels : A.label n ≡ B.label m
  pub lists : SameLists A B n m

-- The target's label follows from the node's label and the transition: §6.6.
pub record Fires (fire : List ℕ → ℕ → List ℕ) (A : Automaton) : Type 0 where
  pub fires : (n t m : ℕ) → n < A.nodes → A.arc n t ≡ some m → A.label m ≡ fire (A.label n) t

-- the test of two labels
unfoldable pub equal_labels : List ℕ → List ℕ → Bool
equal_labels [] [] = true
equal_labels [] (y ∷ ys) = false
equal_labels (x ∷ xs) [] = false
equal_labels (x ∷ xs) (y ∷ ys) = eqb x y && equal_labels xs ys

-- two arcs are both missing, or both there and their targets pass the test
abbrev pub equal_arcs : (ℕ → ℕ → Bool) → Option ℕ → Option ℕ → Bool
equal_arcs r none none = true
equal_arcs r none (some b) = false
equal_arcs r (some a) none = false
equal_arcs r (some a) (some b) = r a b

-- the arcs of n and m by transition t agree
unfoldable pub agree : Automaton → (ℕ → ℕ → Bool) → ℕ → ℕ → ℕ → Bool
agree A r n m t = equal_arcs r (A.arc n t) (A.arc m t)

-- Nodes that k rounds do not tell apart: equal labels, and every transition leads to nodes that k - 1 rounds do not tell apart.
unfoldable pub same_in : Automaton → ℕ → ℕ → ℕ → Bool
same_in A zero n m = equal_labels (A.label n) (A.label m)
same_in A (suc k) n m = equal_labels (A.label n) (A.label m) && all (agree A (same_in A k) n m) A.transitions

-- nodes that are not told apart by as many rounds as there are nodes; no fixed number of rounds would do (§11.4)
unfoldable pub same : Automaton → ℕ → ℕ → Bool
same A n m = same_in A A.nodes n m

-- m is in the class of n
unfoldable pub in_class : (ℕ → ℕ → Bool) → ℕ → ℕ → Bool
in_class r n m = r m n

-- the least member of n's class
unfoldable pub leader_by : (ℕ → ℕ → Bool) → ℕ → ℕ
leader_by r n = least (in_class r n) n

-- the least node that k rounds do not tell apart from n
unfoldable pub leader : Automaton → ℕ → ℕ → ℕ
leader A k n = leader_by (same_in A k) n

-- n and m have the same class in a table
unfoldable pub same_class : (ℕ → ℕ) → ℕ → ℕ → Bool
same_class class n m = eqb (class n) (class m)

-- one round over a table of classes: n and m have the same class, and every transition leads from both into the same class
unfoldable pub refined : Automaton → (ℕ → ℕ) → ℕ → ℕ → Bool
refined A class n m = same_class class n m && all (agree A (same_class class) n m) A.transitions

-- the table of leaders after k rounds, each made from the one before it
unfoldable pub classes : Automaton → ℕ → List ℕ
classes A zero = tabulate (leader_by (same_in A 0)) A.nodes
classes A (suc k) = let before = classes A k in tabulate (leader_by (refined A (λ n. get_or before n 0))) A.nodes
