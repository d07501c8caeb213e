-- There is one canonical automaton for each class of roots: two with equivalent roots are equal.
use Rattle.scan.proofs.Basics.{ℕ, ◌-◌, ◌≤◌, ◌<◌, arith, ◌≡◌, sym, ap, ◌∙◌, some, List}
use Rattle.scan.proofs.Tests.{by_less}
use Rattle.automaton.specs.Automaton.{Automaton}
use Rattle.automaton.specs.Equivalence.{Equivalent}
use Rattle.automaton.specs.BreadthFirst.{Before, Discovery}
use Rattle.automaton.specs.Quotient.{Reduced, Canonical}
use Rattle.automaton.proofs.Targets.{targets-right, targets-cases}
use Rattle.automaton.proofs.Equivalence.{equivalent-sym, equivalent-trans, equivalent-targets}
use Rattle.automaton.proofs.Before.{lower-induction, before_parent, before-trans, before_at, before-cases}
use Rattle.automaton.proofs.BreadthFirst.{breadth-first-earlier}

module _ (fire : List ℕ → ℕ → List ℕ) (A B : Automaton) (cA : Canonical fire A) (cB : Canonical fire B) where
  -- node k of both, equivalent
  pub record Paired (k : ℕ) : Type 0 where
    pub node : k < B.nodes
    pub equivalent : Equivalent A B k k

  -- of a node of A and a node of B that are equivalent, where the first is paired, both have one number
  paired-number : (k m : ℕ) → m < B.nodes → Paired k → Equivalent A B k m → k ≡ m
  unfolding Reduced
  paired-number k m l P e = cB.reduced k m P.node l (equivalent-trans B A B k k m (equivalent-sym A B k k P.equivalent) e)

  -- ---- all nodes below k are paired, and k is discovered in A from p by u

  module _ (k : ℕ) (z : 0 < k) (l : k < A.nodes) (below : (j : ℕ) → j < k → j < A.nodes → Paired j) (p u : ℕ) (lp : p < k) (D : Discovery A k p u) where
    -- no arc of B that comes before leads to k
    not_earlier : (q v : ℕ) → Before q v p u → B.arc q v ≡ some k → ⊥
    not_earlier q v b e =
        let lq : q < k = omega (arith, before_parent q v p u b) in
        let P : Paired q = below q lq (omega arith) in
        let (m, a, x) = targets-right (Equivalent B A) (B.arc q v) (A.arc q v) k
        (equivalent-targets fire B A cB.fires cA.fires q q P.node (omega arith) (equivalent-sym A B q q P.equivalent) v) e in
        let lm : m < A.nodes = cA.closed.lands q v m (omega arith) a in
        let low : m < k = breadth-first-earlier A cA.breadth_first k p u z l D q v m b a lm in
        let same : m ≡ k = paired-number m k (cB.closed.lands q v k P.node e) (below m low lm) (equivalent-sym B A k m x) in
        omega arith

    -- that arc of B leads to m: it cannot be lower, nor higher
    module _ (m : ℕ) (lm : m < B.nodes) (b : B.arc p u ≡ some m) (e : Equivalent A B k m) where
      not_lower : m < k → ⊥
      unfolding Reduced
      not_lower low =
          let P : Paired m = below m low (omega arith) in
          let same : k ≡ m = cA.reduced k m l (omega arith) (equivalent-trans A B A k m m e (equivalent-sym A B m m P.equivalent)) in
          omega arith

      not-higher : k < m → ⊥
      not-higher high =
          let (i, t, li, E) = cB.breadth_first.discovered k z (omega arith) in
          let (n, v, ln, F) = cB.breadth_first.discovered m (omega arith) lm in
          let rise : Before i t n v = cB.breadth_first.rising k m i t n v z high lm E F in
          before-cases n v p u (λ c. not_earlier i t (before-trans i t n v p u rise c) E.arc)
          (λ x y. not_earlier i t (before_at i t n v p u rise x y) E.arc) (λ c. F.first p u c b)

      matched : Paired k
      matched = let same : k ≡ m = omega (arith, not_lower, not-higher) in record { node = rw same lm; equivalent = rw (← same) at e }

  paired-step : (k : ℕ) → 0 < k → k < A.nodes → ((j : ℕ) → j < k → j < A.nodes → Paired j) → Paired k
  paired-step k z l below =
      let (p, u, lp, D) = cA.breadth_first.discovered k z l in
      let P : Paired p = below p lp (omega arith) in
      let (m, b, e) = targets-right (Equivalent A B) (A.arc p u) (B.arc p u) k
      (equivalent-targets fire A B cA.fires cB.fires p p (omega arith) P.node P.equivalent u) D.arc in
      matched k z l below p u lp D m (cB.closed.lands p u m P.node b) b e

  pub paired : Equivalent A B 0 0 → (k : ℕ) → k < A.nodes → Paired k
  paired e = lower-induction (λ k. k < A.nodes → Paired k) (λ k h l. by_less 0 k (λ z. paired-step k z l h)
      (λ z. let q : k ≡ 0 = omega arith in rw q (record { node = cB.closed.root; equivalent = e })))

  fewer : Equivalent A B 0 0 → A.nodes ≤ B.nodes
  fewer e = let P : Paired (A.nodes - 1) = paired e (A.nodes - 1) (omega (arith, cA.closed.root)) in omega (arith, P.node, cA.closed.root)

module _ (fire : List ℕ → ℕ → List ℕ) (A B : Automaton) (cA : Canonical fire A) (cB : Canonical fire B) (e : Equivalent A B 0 0) where
  pub unique-nodes : A.nodes ≡ B.nodes
  unique-nodes = omega (arith, fewer fire A B cA cB e, fewer fire B A cB cA (equivalent-sym A B 0 0 e))

  pub unique-arc : (i t : ℕ) → A.arc i t ≡ B.arc i t
  unique-arc i t = by_less i A.nodes at_node (λ l. cA.confined.arcs i t l ∙ sym (cB.confined.arcs i t (omega (arith, unique-nodes))))
    where
      at_node : i < A.nodes → A.arc i t ≡ B.arc i t
      at_node l =
          let P : Paired fire A B cA cB i = paired fire A B cA cB e i l in
          targets-cases (Equivalent A B) (A.arc i t) (B.arc i t) (equivalent-targets fire A B cA.fires cB.fires i i l P.node P.equivalent t)
          (λ p r. p ∙ sym r)
          (λ a b p r x. p ∙
          ap some (paired-number fire A B cA cB a b (cB.closed.lands i t b P.node r) (paired fire A B cA cB e a (cA.closed.lands i t a l p)) x) ∙ sym r)

  pub unique-label : (i : ℕ) → A.label i ≡ B.label i
  unique-label i =
      by_less i A.nodes (λ l. (paired fire A B cA cB e i l).equivalent.labels)
      (λ l. cA.confined.labels i l ∙ sym (cB.confined.labels i (omega (arith, unique-nodes))))

  pub unique : A.transitions ≡ B.transitions → A ≡ B
  unique T = λ i. record { nodes = unique-nodes i; transitions = T i; arc = λ n t. unique-arc n t i; label = λ n. unique-label n i }
