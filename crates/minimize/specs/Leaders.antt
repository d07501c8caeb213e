-- Tables in which the class of a node is its least member. No contract of a public function cites it.
use Rattle.std.specs.Prelude.{ℕ, ◌≤◌, ◌<◌, ◌≡◌, List, Bool, true, false, cond, ◌&&◌, eqb, length}
use Rattle.scan.specs.Scan.{all}
use Rattle.automaton.specs.Automaton.{Automaton}
use Rattle.automaton.specs.Equivalence.{agree, same_in, leader_by, same_class}
use Rattle.sequential.specs.Petri.{petri_net}
use Rattle.sequential.specs.Words.{node_count, graph}
use Rattle.breadth_first.specs.Along.{class_in}
use Rattle.minimize.specs.Agree.{StartsOf, SameOffers}

-- the first entries of a table are the leaders by a test
pub record LeadersBy (r : ℕ → ℕ → Bool) (entries : ℕ) (classes : List ℕ) : Type 0 where
  pub leads : (n : ℕ) → n < entries → class_in classes n ≡ leader_by r n

-- the rows of two nodes agree: their counts are equal, or every transition leads from both into one class
unfoldable pub rows_alike : Automaton → Bool → (ℕ → ℕ) → ℕ → ℕ → Bool
rows_alike A counts class n m = cond counts (same_in A 0 n m) (all (agree A (same_class class) n m) A.transitions)

-- nodes that a round leaves together: they have the same class, and their rows agree
unfoldable pub split : Automaton → Bool → (ℕ → ℕ) → ℕ → ℕ → Bool
split A counts class n m = same_class class n m && rows_alike A counts class n m

-- what a round relies on: the entries at which rows start, and a table in which each class is known by its least node; in a level round the nodes of a class
-- have arcs by the same transitions
pub record Round (net sheet starts classes : List ℕ) (counts level : Bool) : Type 0 where
  pub of : StartsOf net sheet counts starts
  pub long : length classes ≡ 128
  pub least : (m n : ℕ) → m < node_count sheet → n < node_count sheet → class_in classes m ≡ class_in classes n → class_in classes n ≤ m
  pub own : (n : ℕ) → n < node_count sheet → class_in classes (class_in classes n) ≡ class_in classes n
  pub arcs : level ≡ true → counts ≡ false
  pub offers : level ≡ true → (m n : ℕ) → m < node_count sheet → n < node_count sheet → class_in classes m ≡ class_in classes n
      → SameOffers (graph (petri_net net) sheet) m n

-- a round that has come to node n: the lower nodes have their new classes
pub record RoundAt (net sheet classes next : List ℕ) (counts : Bool) (n : ℕ) : Type 0 where
  pub node : n < node_count sheet
  pub led : LeadersBy (split (graph (petri_net net) sheet) counts (class_in classes)) n next

-- node n has the same class in both tables
unfoldable pub same_entry : List ℕ → List ℕ → ℕ → Bool
same_entry a b n = eqb (class_in a n) (class_in b n)
