-- The words of a graph (§11.6), and which graphs have words. §14.1 works an example by hand.
use Rattle.std.specs.Prelude.{ℕ, zero, suc, ◌+◌, ◌*◌, ◌≤◌, ◌<◌, ◌≡◌, List, [], ◌∷◌, ◌++◌, length, get_or, ltb}
use Rattle.std.proofs.Math.Option.{Option, none, some}
use Rattle.scan.specs.Scan.{when, found}
use Rattle.automaton.specs.Automaton.{Automaton, Closed}
use Rattle.automaton.specs.Quotient.{Confined}
use Rattle.refusal.specs.Limits.{most_nodes, most_entries, most_count}
use Rattle.sequential.specs.Petri.{PetriNet}

-- ---- lists of all that a function finds

abbrev pub list_of : Option ℕ → List ℕ
list_of none = []
list_of (some x) = x ∷ []

-- all that f finds over 0, 1, .., n - 1
unfoldable pub gather : (ℕ → Option ℕ) → ℕ → List ℕ
gather f zero = []
gather f (suc n) = gather f n ++ list_of (f n)

-- all that f finds in rows 0, 1, .., n - 1, row by row; each row has the same number of columns
unfoldable pub gather_rows : (ℕ → ℕ → Option ℕ) → ℕ → ℕ → List ℕ
gather_rows f columns zero = []
gather_rows f columns (suc n) = gather_rows f columns n ++ gather (f n) columns

-- ---- the words of an automaton whose nodes have arcs by N's transitions and counts of N's places

module _ (N : PetriNet) (A : Automaton) where
  -- the key of an arc (§3.5), or none if there is no arc (§3.7)
  unfoldable pub key_of_arc : ℕ → ℕ → Option ℕ
  key_of_arc n t = when (found (A.arc n t)) (n * N.transitions + t)

  unfoldable pub held : ℕ → ℕ → ℕ
  held n p = get_or (A.label n) p 0

  -- the key of a count (§3.6), or none if the count is 0 (§3.8)
  unfoldable pub key_of_count : ℕ → ℕ → Option ℕ
  key_of_count n p = when (ltb 0 (held n p)) (A.nodes * N.transitions + n * N.places + p)

  unfoldable pub value_of_count : ℕ → ℕ → Option ℕ
  value_of_count n p = when (ltb 0 (held n p)) (held n p)

  -- all keys in rising order (§3.4): of arcs, by node and then by transition, and after them of counts, by node and then by place
  unfoldable pub keys : List ℕ
  keys = gather_rows key_of_arc N.transitions A.nodes ++ gather_rows key_of_count N.places A.nodes

  unfoldable pub values : List ℕ
  values = gather_rows A.arc N.transitions A.nodes ++ gather_rows value_of_count N.places A.nodes

  -- the words: §3.1
  unfoldable pub encode : List ℕ
  encode = A.nodes ∷ length keys ∷ (keys ++ values)

-- ---- the graphs that a schedule's words can describe: §3.2, §3.5, §3.6

pub record Encodable (N : PetriNet) (A : Automaton) : Type 0 where
  pub transitions : A.transitions ≡ N.transitions
  pub few_nodes : A.nodes ≤ most_nodes
  pub few_entries : length (keys N A) ≤ most_entries
  pub closed : Closed A
  pub confined : Confined A
  pub places : (n : ℕ) → n < A.nodes → length (A.label n) ≡ N.places
  pub most : (n p : ℕ) → n < A.nodes → p < N.places → held N A n p ≤ most_count
