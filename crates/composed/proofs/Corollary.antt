-- 30 without a search, and source document 001's Corollary 1.
use Rattle.scan.proofs.Basics.{ℕ, zero, suc, ◌+◌, ◌-◌, ◌*◌, ◌≤◌, ◌<◌, arith, ◌≡◌, refl, ap, ⊎_elim, ◌↔◌, Bool, true, false, ◌&&◌, ltb, eqb, none, get_or}
use native.Mathlib.Nat.{zero-mul, suc-mul}
use borrow.Author.Tests.{leb-true, le-leb, ltb-true, ltb-false, eqb-true, eq-eqb}
use Rattle.scan.specs.Scan.{bit, any, count, sum}
use Rattle.scan.proofs.Tests.{by_test, true-false, not-true→false, iff→eq, lt-suc-cases}
use Rattle.scan.proofs.Every.{any-ext}
use Rattle.scan.proofs.Count.{count-strict, count-prefix}
use Rattle.automaton.specs.Reach.{reached_in}
use Rattle.automaton.proofs.Reach.{reached↔reachable}
use Rattle.sequential.specs.Petri.{PetriNet}
use Rattle.composed.specs.Tuples.{tuples}
use Rattle.composed.specs.Product.{Tasks, OnePerSource, size_of, node_of, waiting, busy, held_by, held_by_all, held_at, marking, product}
use Rattle.composed.specs.Composed.{Independent, OneBusy, one_busy, disabled_by, disabled_at, disabled_tuple, is_dependent, AwaitsCover}
use Rattle.composed.proofs.Product.{OthersWait, Fired, step-out, fired-others}
use Rattle.composed.proofs.Steps.{node-below, product-closed, one-busy}
use Rattle.composed.proofs.Counts.{held, held_plain}
use Rattle.sequential.proofs.Capacities.{enabled-unlimited}
use Rattle.composed.proofs.States.{reached↔one-busy}

-- ---- at most one index passes

none_passes : ℕ → Bool
none_passes i = false

module _ (f : ℕ → Bool) where
  one-count : (n : ℕ) → ((i j : ℕ) → i < n → j < n → f i ≡ true → f j ≡ true → i ≡ j) → count f n ≤ 1
  unfolding count bit
  one-count zero h = omega arith
  one-count (suc n) h =
      by_test (f n)
      (λ e.
      let z : count f n ≡ 0 = count-prefix f n 0 (omega arith) (λ i l. absurd (omega arith))
      (λ i m l. not-true→false (f i) (λ p. let q = h i n (omega arith) (omega arith) p e in omega arith)) in
      rw (z, e) (omega arith))
      (λ e. rw e (omega (arith, one-count n (λ i j li lj. h i j (omega arith) (omega arith)))))

  -- two that pass are counted twice
  two-count : (n i j : ℕ) → i < j → j < n → f i ≡ true → f j ≡ true → 1 < count f n
  unfolding none_passes
  two-count n i j l lj p q =
      omega (
        arith,
        count-strict none_passes (eqb i) n i (λ k lk e. true-false false e refl) (omega arith) refl (eq-eqb i i refl),
        count-strict (eqb i) f n j (λ k lk e. rw (← (eqb-true i k e)) p) lj (not-true→false (eqb i j) (λ e. let z = eqb-true i j e in omega arith)) q,
      )

  count-one : (n : ℕ) → count f n ≤ 1 → (i j : ℕ) → i < n → j < n → f i ≡ true → f j ≡ true → i ≡ j
  count-one n c i j li lj p q =
      by_test (ltb i j) (λ e. absurd (omega (arith, two-count n i j (ltb-true i j e) lj p q)))
      (λ e. by_test (ltb j i) (λ g. absurd (omega (arith, two-count n j i (ltb-true j i g) li q p))) (λ g. omega (arith, ltb-false i j e, ltb-false j i g)))

pub one_busy↔ : (X : Tasks) (s : ℕ) → (one_busy X s ≡ true) ↔ OneBusy X s
unfolding one_busy OneBusy
one_busy↔ X s = (
  λ e. count-one (busy X s) X.number (leb-true (count (busy X s) X.number) 1 e),
  λ h. le-leb (count (busy X s) X.number) 1 (one-count (busy X s) X.number h),
)

-- ---- sums

sum-above : (f : ℕ → ℕ) (c n : ℕ) → ((j : ℕ) → j < n → c ≤ f j) → n * c ≤ sum f n
unfolding sum
sum-above f c zero h = rw (zero-mul c) (omega arith)
sum-above f c (suc n) h = omega (arith, suc-mul n c, h n (omega arith), sum-above f c n (λ j l. h j (omega arith)))

-- all but one are at least c
sum-above-but : (f : ℕ → ℕ) (c n i : ℕ) → i < n → ((j : ℕ) → j < n → (j ≡ i → ⊥) → c ≤ f j) → n * c + f i ≤ sum f n + c
unfolding sum
sum-above-but f c zero i l h = absurd (omega arith)
sum-above-but f c (suc n) i l h =
    ⊎_elim
    (λ (e : i ≡ n). rw e (omega (arith, suc-mul n c, sum-above f c n (λ j m. h j (omega arith) (λ q. omega arith)))))
    (λ (m : i < n). omega (arith, suc-mul n c, sum-above-but f c n i m (λ j lj d. h j (omega arith) d), h n (omega arith) (λ q. omega arith)))
    (lt-suc-cases l)

module _ (N : PetriNet) (X : Tasks) (H : OnePerSource N X) where
  pub dependent-by-tuples : is_dependent N X ≡ any (disabled_tuple N X) (tuples (size_of X) X.number)
  unfolding is_dependent product
  dependent-by-tuples = any-ext (disabled_at N X) (disabled_tuple N X) (tuples (size_of X) X.number) same
    where
      reached : (s : ℕ) → s < tuples (size_of X) X.number → reached_in (product N X) ((product N X).nodes - 1) s ≡ one_busy X s
      reached s l =
          iff→eq (reached_in (product N X) ((product N X).nodes - 1) s) (one_busy X s)
          (λ e. (one_busy↔ X s).1 (one-busy N X H s ((reached↔reachable (product N X) (product-closed N X H) s).0 e)))
          (λ e. (reached↔reachable (product N X) (product-closed N X H) s).1 ((reached↔one-busy N X H s).1 (l, (one_busy↔ X s).0 e)))

      same : (s : ℕ) → s < tuples (size_of X) X.number → disabled_at N X s ≡ disabled_tuple N X s
      same s l = unfold disabled_at disabled_tuple in (ap (λ (b : Bool). b && any (disabled_by N X s) N.transitions) (reached s l))

  -- what fires is enabled where every other task holds at least the starting counts
  enough-held : (s t m : ℕ) (F : Fired X s t m) (p : ℕ) → p < N.places
      → ((j : ℕ) → j < X.number → (j ≡ F.by → ⊥) → N.start p ≤ held_by X s p j) → N.taken t p ≤ get_or (marking N X s) p 0
  unfolding held_at
  enough-held s t m F p l h =
      rw (held N X s p l) (enough (N.taken t p) (held_by X s p F.by) (N.start p) (X.number * N.start p) (held_by_all X s p) own others)
    where
      own : N.taken t p ≤ held_by X s p F.by
      own = unfold held_by in (((H.schedule F.by F.task).enables (node_of X F.by s) t F.node (node-below N X H s F.by F.task) F.arc).holds p l)

      others : X.number * N.start p + held_by X s p F.by ≤ held_by_all X s p + N.start p
      others = unfold held_by_all in (sum-above-but (held_by X s p) (N.start p) X.number F.by F.task h)

      enough : (a x c k h : ℕ) → a ≤ x → k + x ≤ h + c → a ≤ c + h - k
      enough a x c k h e f = omega arith

  -- source document 001, Corollary 1
  pub corollary-one : ((p : ℕ) → p < N.places → N.capacity p ≡ none) → AwaitsCover N X → Independent N X
  unfolding AwaitsCover
  corollary-one u C s t m r e = enabled-unlimited N (marking N X s) t (λ p l k. u p l) (λ p l.
      let F : Fired X s t m = step-out X s t m (unfold product in e) in
      let O : OthersWait X s F.by = fired-others X s t m (one-busy N X H s r) F in
      enough-held s t m F p l (λ j lj d. unfold held_by in (C j (node_of X j s) p lj (node-below N X H s j lj) (unfold waiting in (O.wait j lj d)) l)))

  -- a single task is never dependent: it holds its own counts
  pub one-task : X.number ≡ 1 → Independent N X
  one-task q s t m r e =
      let F : Fired X s t m = step-out X s t m (unfold product in e) in
      let z : F.by ≡ 0 = omega (arith, F.task) in
      let own = (H.schedule F.by F.task).enables (node_of X F.by s) t F.node (node-below N X H s F.by F.task) F.arc in
      record {
        holds = λ p l. enough-held s t m F p l (λ j lj d. absurd (d (omega (arith, F.task))));
        room = λ p l k. rw (held N X s p l, held_plain N X s p 0 q, alone s p, ← z) (unfold held_by in (own.room p l k));
      }
    where
      alone : (s p : ℕ) → held_by_all X s p - 0 * N.start p ≡ held_by X s p 0
      alone s p = unfold held_by_all sum in (rw (q, zero-mul (N.start p)) (omega arith))
