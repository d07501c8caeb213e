-- The words of the minimal automaton have no more entries: each of its nodes has as many as the old one that stands for it.
use Rattle.scan.proofs.Basics.{ℕ, ◌+◌, ◌≤◌, ◌<◌, arith, ◌≡◌, sym, ap, ◌∙◌, Bool, ltb, List, length, length-append}
use Rattle.scan.specs.Scan.{found, count, sum}
use Rattle.scan.proofs.Count.{count-ext}
use Rattle.scan.proofs.Sum.{sum-ext, sum-plus}
use Rattle.scan.proofs.First.{found_map}
use Rattle.automaton.specs.Automaton.{Automaton, Closed}
use Rattle.automaton.specs.Equivalence.{Fires}
use Rattle.automaton.specs.Quotient.{minimal, class_number, representative}
use Rattle.automaton.proofs.Quotient.{minimal-arc, minimal-label}
use Rattle.automaton.proofs.Fewest.{minimal-sum}
use Rattle.sequential.specs.Petri.{PetriNet}
use Rattle.encoding.specs.Encoding.{gather_rows, key_of_arc, held, key_of_count, keys}
use Rattle.encoding.proofs.Gather.{finds, rows-length}
use Rattle.encoding.proofs.Encoding.{found-when}

-- ---- how many arcs and counts above 0 the nodes have together

module _ (N : PetriNet) (A : Automaton) where
  unfoldable holds_some : ℕ → ℕ → Bool
  holds_some n p = ltb 0 (held N A n p)

  unfoldable degree : ℕ → ℕ
  degree n = count (finds (A.arc n)) N.transitions + count (holds_some n) N.places

  rows-degree : (n : ℕ) → count (finds (key_of_arc N A n)) N.transitions + count (finds (key_of_count N A n)) N.places ≡ degree n
  unfolding degree
  rows-degree n = rw (
    count-ext (finds (key_of_arc N A n)) (finds (A.arc n)) N.transitions (λ t m. unfold finds key_of_arc in (found-when _ _)),
    count-ext (finds (key_of_count N A n)) (holds_some n) N.places (λ p m. unfold finds key_of_count holds_some in (found-when _ _)),
  )

  keys_length : length (keys N A) ≡ sum degree A.nodes
  unfolding keys
  keys_length =
      length-append (gather_rows (key_of_arc N A) N.transitions A.nodes) (gather_rows (key_of_count N A) N.places A.nodes)
      ∙ rw (rows-length (key_of_arc N A) N.transitions A.nodes, rows-length (key_of_count N A) N.places A.nodes) (sym (sum-plus _ _ A.nodes))
      ∙ sum-ext _ degree A.nodes (λ n l. rows-degree n)

-- ---- each node as many as the one that stands for it

module _ (N : PetriNet) (fire : List ℕ → ℕ → List ℕ) (A : Automaton) (c : Closed A) (f : Fires fire A) where
  minimal-degree : (i : ℕ) → i < (minimal A).nodes → degree N (minimal A) i ≡ degree N A (representative A i)
  unfolding degree
  minimal-degree i l = rw (
    count-ext (finds ((minimal A).arc i)) (finds (A.arc (representative A i))) N.transitions
        (λ t m. unfold finds in (ap found (minimal-arc A i t l) ∙ found_map (class_number A) (A.arc (representative A i) t))),
    count-ext (holds_some N (minimal A) i) (holds_some N A (representative A i)) N.places (λ p m. unfold holds_some held in (rw (minimal-label A i l))),
  )

  pub minimal-keys : length (keys N (minimal A)) ≤ length (keys N A)
  minimal-keys = omega (
    arith,
    keys_length N (minimal A),
    keys_length N A,
    sum-ext (degree N (minimal A)) (λ i. degree N A (representative A i)) (minimal A).nodes minimal-degree,
    minimal-sum fire A c f (degree N A),
  )
