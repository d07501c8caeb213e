-- Minimal automata are smallest: representatives are different nodes, and an automaton with no more nodes than its minimal one differs from it only in its numbers.
use Rattle.scan.proofs.Basics.{ℕ, ◌-◌, ◌≤◌, ◌<◌, arith, ◌≡◌, sym, ap, subst, ◌∙◌, ◌⊎◌, inl, inr, ⊎_elim, Bool, false, eqb, List}
use Prim.Native.Nat.{min}
use Rattle.scan.proofs.Tests.{eqb-true, eqb-false, by_test, by_less}
use Rattle.scan.specs.Scan.{any, sum}
use Rattle.scan.proofs.Every.{any_out, any-before}
use Rattle.scan.proofs.Count.{pigeonhole}
use Rattle.scan.proofs.Sum.{sum-distinct}
use Rattle.automaton.specs.Automaton.{Automaton, Closed}
use Rattle.automaton.specs.Reach.{Reachable}
use Rattle.automaton.specs.Equivalence.{Equivalent, Fires}
use Rattle.automaton.specs.Quotient.{minimal, class_number, representative, Quotient, Renumbering}
use Rattle.automaton.proofs.Quotient.{representative-node, representative-reachable, number-representative, quotient}
use Rattle.automaton.proofs.Minimal.{equivalent→minimal-equal}

-- N different numbers below N are all of them
pub distinct-all : (f : ℕ → ℕ) (N : ℕ) → ((i : ℕ) → i < N → f i < N) → ((i j : ℕ) → i < j → j < N → f i ≡ f j → ⊥) → (v : ℕ) → v < N → (i : ℕ) × (i < N) × (f i ≡ v)
distinct-all f N h d v l = by_test (any hits N) (λ e. let (i, li, q) = any_out hits N e in (i, li, eqb-true (f i) v q)) (λ e. absurd (missed e))
  where
    hits : ℕ → Bool
    hits i = eqb (f i) v

    -- the numbers but v, counted through
    gap : (x y : ℕ) → (x < v) ⊎ (v < x) → (y < v) ⊎ (v < y) → x - min 1 (x - v) ≡ y - min 1 (y - v) → x ≡ y
    gap x y (inl a) (inl b) q = omega arith
    gap x y (inl a) (inr b) q = omega arith
    gap x y (inr a) (inl b) q = omega arith
    gap x y (inr a) (inr b) q = omega arith

    missed : any hits N ≡ false → ⊥
    missed e =
        let other : (i : ℕ) → i < N → (f i < v) ⊎ (v < f i)
        = λ i li. by_less (f i) v inl (λ k. inr (omega (arith, eqb-false (f i) v (any-before hits N e i li)))) in
        let over : N ≤ N - 1 = pigeonhole (λ i. f i - min 1 (f i - v)) N (N - 1) (λ i li. ⊎_elim (λ k. omega arith) (λ k. omega (arith, h i li)) (other i li))
        (λ i j ij lj q. d i j ij lj (gap (f i) (f j) (other i (omega arith)) (other j lj) q)) in
        omega arith

module _ (fire : List ℕ → ℕ → List ℕ) (A : Automaton) (c : Closed A) (f : Fires fire A) where
  distinct : (i j : ℕ) → i < j → j < (minimal A).nodes → representative A i ≡ representative A j → ⊥
  distinct i j ij lj e =
      let q : i ≡ j = sym (number-representative fire A c f i (omega arith)) ∙ ap (class_number A) e ∙ number-representative fire A c f j lj in
      omega arith

  -- what is counted at every node comes to no more over the classes
  pub minimal-sum : (d : ℕ → ℕ) → sum (λ i. d (representative A i)) (minimal A).nodes ≤ sum d A.nodes
  minimal-sum d = sum-distinct d (representative A) (minimal A).nodes A.nodes (representative-node fire A c f) distinct

  -- ---- as many nodes

  module _ (e : (minimal A).nodes ≡ A.nodes) where
    -- every node stands for its class
    own-representative : (n : ℕ) → n < A.nodes → (class_number A n < (minimal A).nodes) × (representative A (class_number A n) ≡ n)
    own-representative n l =
        let (i, li, q) = distinct-all (representative A) A.nodes (λ i li. representative-node fire A c f i (rw e li)) (λ i j ij lj. distinct i j ij (rw e lj)) n l in
        let m : i < (minimal A).nodes = rw e li in
        let p : class_number A n ≡ i = ap (class_number A) (sym q) ∙ number-representative fire A c f i m in
        (rw p m, ap (representative A) p ∙ q)

    pub minimal-renumbering : Renumbering A (minimal A) (class_number A)
    minimal-renumbering = record {
      root = Q.root;
      node = λ n l. (own-representative n l).0;
      injective = λ n m ln lm q. sym (own-representative n ln).1 ∙ ap (representative A) q ∙ (own-representative m lm).1;
      onto = λ i l. (representative A i, representative-node fire A c f i l, number-representative fire A c f i l);
      arcs = λ n t l. Q.arcs n t (reached n l);
      labels = λ n l. Q.labels n (reached n l);
    }
      where
        Q : Quotient A (minimal A) (class_number A)
        Q = quotient fire A c f

        reached : (n : ℕ) → n < A.nodes → Reachable A n
        reached n l = rw (← (own-representative n l).1) (representative-reachable fire A c f (class_number A n) (own-representative n l).0)

-- an automaton with an equivalent root and as few nodes is the minimal one up to the numbers of its nodes
pub fewest-renumbering : (fire : List ℕ → ℕ → List ℕ) (A B : Automaton) → Closed A → Closed B → Fires fire A → Fires fire B → A.transitions ≡ B.transitions
    → Equivalent A B 0 0 → B.nodes ≡ (minimal A).nodes → Renumbering B (minimal A) (class_number B)
fewest-renumbering fire A B cA cB fA fB T e N =
    let q : minimal A ≡ minimal B = equivalent→minimal-equal fire A B cA cB fA fB T e in
    subst (λ (M : Automaton). Renumbering B M (class_number B)) (sym q) (minimal-renumbering fire B cB fB (sym (N ∙ ap (λ (M : Automaton). M.nodes) q)))
