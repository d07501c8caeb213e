-- The minimal automaton allows the same lists, is canonical, and is its own minimal automaton; two of them are equal exactly if the roots are equivalent.
use Rattle.scan.proofs.Basics.{ℕ, ◌≤◌, ◌≡◌, sym, ap, subst, ◌∙◌, ◌↔◌, none, option_map, List}
use Rattle.scan.proofs.Tests.{by_less}
use Rattle.automaton.specs.Automaton.{Automaton, Closed, SameLists}
use Rattle.automaton.specs.Equivalence.{Equivalent, Fires, same}
use Rattle.automaton.specs.BreadthFirst.{BreadthFirst}
use Rattle.automaton.specs.Quotient.{merged, minimal_by, minimal, class_number, representative, Quotient, Confined, Canonical}
use Rattle.automaton.proofs.Reach.{root-reachable}
use Rattle.automaton.proofs.Equivalence.{equivalent-sym, equivalent-trans, same-equivalence}
use Rattle.automaton.proofs.Unique.{unique, unique-nodes}
use Rattle.automaton.proofs.Search.{order-short}
use Rattle.automaton.proofs.Quotient.{minimal-transitions, minimal-arc, minimal-confined, minimal-breadth-first, quotient}
use Rattle.automaton.proofs.Carried.{carried-root, carried-lands, carried-fires}
use Rattle.automaton.proofs.Kept.{quotient-carries, quotient-reduced}

module _ (fire : List ℕ → ℕ → List ℕ) (A : Automaton) (c : Closed A) (f : Fires fire A) where
  Q : Quotient A (minimal A) (class_number A)
  Q = quotient fire A c f

  pub minimal-closed : Closed (minimal A)
  minimal-closed = record {
    root = rw Q.root at (Q.node 0 (root-reachable A));
    lands = carried-lands (quotient-carries Q);
    bounded = λ i t l.
        by_less i (minimal A).nodes (λ k. minimal-arc A i t k ∙ ap (option_map (class_number A)) (c.bounded (representative A i) t (rw (minimal-transitions A) at l)))
        ((minimal-confined A).arcs i t);
  }

  pub minimal-canonical : Canonical fire (minimal A)
  minimal-canonical = record {
    closed = minimal-closed;
    fires = carried-fires (quotient-carries Q) fire c f;
    breadth_first = minimal-breadth-first fire A c f;
    reduced = quotient-reduced Q;
    confined = minimal-confined A;
  }

  pub minimal-equivalent : Equivalent (minimal A) A 0 0
  minimal-equivalent = carried-root (quotient-carries Q)

  pub minimal-size : (minimal A).nodes ≤ A.nodes
  unfolding minimal minimal_by merged
  minimal-size = order-short (same A) A c (same-equivalence A).reflexive

  -- whatever is a quotient of A and numbered breadth first is the minimal automaton
  pub quotient-unique : (M : Automaton) (g : ℕ → ℕ) → Quotient A M g → BreadthFirst M → Confined M
      → ((i t : ℕ) → M.transitions ≤ t → M.arc i t ≡ none) → M.transitions ≡ A.transitions → M ≡ minimal A
  quotient-unique M g R b k bounded T =
      unique fire M (minimal A)
      (record {
        closed = record { root = rw R.root at (R.node 0 (root-reachable A)); lands = carried-lands (quotient-carries R); bounded = bounded };
        fires = carried-fires (quotient-carries R) fire c f;
        breadth_first = b;
        reduced = quotient-reduced R;
        confined = k;
      })
      minimal-canonical
      (equivalent-trans M A (minimal A) 0 0 0 (carried-root (quotient-carries R)) (equivalent-sym (minimal A) A 0 0 minimal-equivalent)) (T ∙ sym (minimal-transitions A))

-- ---- canonical automata

-- a canonical automaton is its own minimal automaton
pub canonical-minimal : (fire : List ℕ → ℕ → List ℕ) (A : Automaton) → Canonical fire A → minimal A ≡ A
canonical-minimal fire A C =
    unique fire (minimal A) A (minimal-canonical fire A C.closed C.fires) C (minimal-equivalent fire A C.closed C.fires) (minimal-transitions A)

pub minimal-idempotent : (fire : List ℕ → ℕ → List ℕ) (A : Automaton) → Closed A → Fires fire A → minimal (minimal A) ≡ minimal A
minimal-idempotent fire A c f = canonical-minimal fire (minimal A) (minimal-canonical fire A c f)

-- ---- two automata

module _ (fire : List ℕ → ℕ → List ℕ) (A B : Automaton) (cA : Closed A) (cB : Closed B) (fA : Fires fire A) (fB : Fires fire B) where
  roots : Equivalent A B 0 0 → Equivalent (minimal A) (minimal B) 0 0
  roots e =
      equivalent-trans (minimal A) A (minimal B) 0 0 0 (minimal-equivalent fire A cA fA)
      (equivalent-trans A B (minimal B) 0 0 0 e (equivalent-sym (minimal B) B 0 0 (minimal-equivalent fire B cB fB)))

  pub equivalent→minimal-equal : A.transitions ≡ B.transitions → Equivalent A B 0 0 → minimal A ≡ minimal B
  equivalent→minimal-equal T e =
      unique fire (minimal A) (minimal B) (minimal-canonical fire A cA fA) (minimal-canonical fire B cB fB) (roots e)
      (minimal-transitions A ∙ T ∙ sym (minimal-transitions B))

  pub minimal-equal→equivalent : minimal A ≡ minimal B → Equivalent A B 0 0
  minimal-equal→equivalent e =
      equivalent-trans A (minimal A) B 0 0 0 (equivalent-sym (minimal A) A 0 0 (minimal-equivalent fire A cA fA))
      (subst (λ (M : Automaton). Equivalent M B 0 0) (sym e) (minimal-equivalent fire B cB fB))

  -- with equal labels at the roots: exactly where every list is allowed by both or by neither
  pub minimal-equal↔lists : A.transitions ≡ B.transitions → A.label 0 ≡ B.label 0 → (minimal A ≡ minimal B) ↔ SameLists A B 0 0
  minimal-equal↔lists T l = (λ e. (minimal-equal→equivalent e).lists, λ s. equivalent→minimal-equal T (record { labels = l; lists = s }))

  -- no automaton with an equivalent root has fewer nodes
  pub minimal-fewest : Equivalent A B 0 0 → (minimal A).nodes ≤ B.nodes
  minimal-fewest e =
      rw (unique-nodes fire (minimal A) (minimal B) (minimal-canonical fire A cA fA) (minimal-canonical fire B cB fB) (roots e)) (minimal-size fire B cB fB)
