-- The minimal automaton is the quotient of the reached nodes by equivalence, and its numbers are breadth first.
use Rattle.scan.proofs.Basics.{ℕ, ◌<◌, arith, ◌≡◌, refl, sym, ◌∙◌, some, option_map, List, length}
use mathlib.Core.Option.{map-eq-some_iff}
use Rattle.scan.proofs.Tests.{lt-ltb, le-ltb}
use Rattle.automaton.specs.Automaton.{Automaton, Closed}
use Rattle.automaton.specs.Reach.{Reachable}
use Rattle.automaton.specs.Equivalence.{Equivalent, Fires, same}
use Rattle.automaton.specs.BreadthFirst.{BreadthFirst, order}
use Rattle.automaton.specs.Quotient.{merged, minimal_by, minimal, class_number, representative, Quotient, Confined}
use Rattle.automaton.proofs.Reach.{reachable-node, reachable-keeps}
use Rattle.automaton.proofs.Targets.{targets-cases, targets-right}
use Rattle.automaton.proofs.Leader.{IsEquivalence}
use Rattle.automaton.proofs.Equivalence.{equivalent-sym, equivalent-trans, equivalent-targets, same-equivalence, same↔equivalent}
use Rattle.automaton.proofs.BreadthFirst.{Numbered, numbered→breadth-first}
use Rattle.automaton.proofs.Before.{before_parent}
use Rattle.automaton.proofs.Index.{Met, index-met, index-hit, index-of-element, index-of-equivalent}
use Rattle.automaton.proofs.Search.{Found, Explored, order-explored, order-covers, order-reachable}

module _ (A : Automaton) where
  pub minimal-nodes : (minimal A).nodes ≡ length (order (same A) A)
  unfolding minimal minimal_by merged
  minimal-nodes = refl

  pub minimal-transitions : (minimal A).transitions ≡ A.transitions
  unfolding minimal minimal_by merged
  minimal-transitions = refl

  pub minimal-arc : (i t : ℕ) → i < (minimal A).nodes → (minimal A).arc i t ≡ option_map (class_number A) (A.arc (representative A i) t)
  unfolding minimal minimal_by class_number merged
  minimal-arc i t l = rw (lt-ltb i (length (order (same A) A)) l)

  pub minimal-label : (i : ℕ) → i < (minimal A).nodes → (minimal A).label i ≡ A.label (representative A i)
  unfolding minimal minimal_by merged
  minimal-label i l = rw (lt-ltb i (length (order (same A) A)) l)

  number-met : (k n : ℕ) → Met (same A) (order (same A) A) k n → class_number A n < k
  unfolding class_number
  number-met k n h = index-met (same A) (order (same A) A) k n h

  pub minimal-confined : Confined (minimal A)
  unfolding minimal minimal_by merged
  minimal-confined = record {
    arcs = λ i t l. rw (le-ltb i (length (order (same A) A)) l);
    labels = λ i l. rw (le-ltb i (length (order (same A) A)) l);
  }

module _ (fire : List ℕ → ℕ → List ℕ) (A : Automaton) (c : Closed A) (f : Fires fire A) where
  E : IsEquivalence (same A)
  E = same-equivalence A

  pub order-found : Explored (same A) A A.nodes 0 (order (same A) A)
  order-found = order-explored (same A) A c E.reflexive

  pub representative-node : (i : ℕ) → i < (minimal A).nodes → representative A i < A.nodes
  unfolding minimal minimal_by merged
  representative-node i l = order-found.node i l

  pub representative-reachable : (i : ℕ) → i < (minimal A).nodes → Reachable A (representative A i)
  unfolding minimal minimal_by merged
  representative-reachable i l = order-reachable (same A) A c E.reflexive i l

  pub number-representative : (i : ℕ) → i < (minimal A).nodes → class_number A (representative A i) ≡ i
  unfolding minimal minimal_by class_number merged
  number-representative i l = index-of-element (same A) (order (same A) A) E.reflexive i l (order-found.apart i l)

  pub number-equivalent : (n m : ℕ) → n < A.nodes → m < A.nodes → Equivalent A A n m → class_number A n ≡ class_number A m
  unfolding class_number
  number-equivalent n m ln lm e = index-of-equivalent (same A) (order (same A) A) E n m ((same↔equivalent A c fire f n m ln lm).1 e)

  -- a node whose class the search met is equivalent to that class's representative
  met-equivalent : (n : ℕ) → n < A.nodes → class_number A n < (minimal A).nodes → Equivalent A A n (representative A (class_number A n))
  unfolding class_number minimal minimal_by merged
  met-equivalent n ln l =
      equivalent-sym A A (representative A (class_number A n)) n
      ((same↔equivalent A c fire f (representative A (class_number A n)) n (order-found.node (class_number A n) l) ln).0 (index-hit (same A) (order (same A) A) n l))

  pub number-root : class_number A 0 ≡ 0
  number-root = rw order-found.root at (number-representative 0 (unfold minimal minimal_by merged in order-found.nonempty))

  -- ---- the search meets every reached node's class

  target-met : (i t m : ℕ) → i < (minimal A).nodes → A.arc (representative A i) t ≡ some m → class_number A m < (minimal A).nodes
  unfolding minimal minimal_by merged
  target-met i t m l a = number-met A (length (order (same A) A)) m (order-covers (same A) A c E.reflexive i t m l a)

  met-step : (n t m : ℕ) → n < A.nodes → class_number A n < (minimal A).nodes → A.arc n t ≡ some m → class_number A m < (minimal A).nodes
  met-step n t m ln l a =
      let i : ℕ = class_number A n in
      let li : representative A i < A.nodes = representative-node i l in
      let (b, ab, x) = targets-right (Equivalent A A) (A.arc n t) (A.arc (representative A i) t) m
      (equivalent-targets fire A A f f n (representative A i) ln li (met-equivalent n ln l) t) a in
      rw (number-equivalent m b (c.lands n t m ln a) (c.lands (representative A i) t b li ab) x) (target-met i t b l ab)

  pub number-node : (n : ℕ) → Reachable A n → class_number A n < (minimal A).nodes
  number-node = reachable-keeps A c (λ n. class_number A n < (minimal A).nodes) (rw number-root (unfold minimal minimal_by merged in order-found.nonempty)) met-step

  -- ---- the quotient

  representative-equivalent : (n : ℕ) → Reachable A n → Equivalent A A n (representative A (class_number A n))
  representative-equivalent n r = met-equivalent n (reachable-node A c n r) (number-node n r)

  number-merges : (n m : ℕ) → Reachable A n → Reachable A m → class_number A n ≡ class_number A m → Equivalent A A n m
  number-merges n m rn rm e =
      equivalent-trans A A A n (representative A (class_number A n)) m (representative-equivalent n rn)
      (equivalent-sym A A m (representative A (class_number A n)) (rw e (representative-equivalent m rm)))

  number-arc : (n t : ℕ) → Reachable A n → (minimal A).arc (class_number A n) t ≡ option_map (class_number A) (A.arc n t)
  number-arc n t r =
      let l : n < A.nodes = reachable-node A c n r in
      let li : representative A (class_number A n) < A.nodes = representative-node (class_number A n) (number-node n r) in
      minimal-arc A (class_number A n) t (number-node n r) ∙
      targets-cases (Equivalent A A) (A.arc n t) (A.arc (representative A (class_number A n)) t)
      (equivalent-targets fire A A f f n (representative A (class_number A n)) l li (representative-equivalent n r) t)
      (λ p q. rw (p, q))
      (λ a b p q x. rw (p, q, number-equivalent a b (c.lands n t a l p) (c.lands (representative A (class_number A n)) t b li q) x))

  pub quotient : Quotient A (minimal A) (class_number A)
  quotient = record {
    root = number-root;
    node = number-node;
    onto = λ i l. (representative A i, representative-reachable i l, number-representative i l);
    merges = λ n m rn rm. (number-merges n m rn rm, number-equivalent n m (reachable-node A c n rn) (reachable-node A c m rm));
    arcs = number-arc;
    labels = λ n r. minimal-label A (class_number A n) (number-node n r) ∙ sym (representative-equivalent n r).labels;
  }

  -- ---- the search's numbers are breadth first

  minimal-numbered : (k : ℕ) → 0 < k → k < (minimal A).nodes → (p : ℕ) × (u : ℕ) × Numbered (minimal A) k p u
  minimal-numbered k z l =
      let F : Found (same A) A (order (same A) A) k = order-found.found k (unfold minimal minimal_by merged in l) z in (
        F.parent,
        F.by,
        record {
          lower = F.lower;
          arc = minimal-arc A F.parent F.by (omega (arith, F.lower)) ∙ rw (F.arc, number-representative k l);
          earlier = λ q v m b e.
              let lq : q < k = omega (arith, F.lower, before_parent q v F.parent F.by b) in
              let (n, a, h) = (map-eq-some_iff (class_number A) (A.arc (representative A q) v)).0 (sym (minimal-arc A q v (omega arith)) ∙ e) in
              rw (← h) (number-met A k n (F.earlier q v n b lq a));
        },
      )

  pub minimal-breadth-first : BreadthFirst (minimal A)
  minimal-breadth-first = numbered→breadth-first (minimal A) minimal-numbered
