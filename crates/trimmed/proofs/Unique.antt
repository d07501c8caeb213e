-- There is one way to cut a graph down: a rising map onto the numbers below some number is the rank.
use Rattle.scan.proofs.Basics.{ℕ, zero, suc, ◌+◌, ◌<◌, arith, ◌≡◌, sym, ap, ⊎_elim, Bool, true}
use Rattle.scan.specs.Scan.{count, bit}
use Rattle.scan.proofs.Tests.{by_test, by_less, true-false, lt-suc-cases}

-- f takes the indices below n that pass onto the numbers below k, rising
pub record Onto (p : ℕ → Bool) (f : ℕ → ℕ) (n k : ℕ) : Type 0 where
  pub node : (m : ℕ) → m < n → p m ≡ true → f m < k
  pub onto : (i : ℕ) → i < k → (m : ℕ) × (m < n) × (p m ≡ true) × (f m ≡ i)

module _ (p : ℕ → Bool) (f : ℕ → ℕ) (rising : (n m : ℕ) → p n ≡ true → p m ≡ true → n < m → f n < f m) where
  -- those below an index that passes go below its own number; those from it on do not
  lower : (n k m : ℕ) → Onto p f n k → m < n → p m ≡ true → Onto p f m (f m)
  lower n k m o l e = record {
    node = λ x h q. rising x m q e h;
    onto = λ i h.
        let (x, y, q, z) = o.onto i (omega (arith, o.node m l e)) in
        (x, by_less x m (λ w. w) (λ w. absurd (⊎_elim (λ (u : m ≡ x). omega (arith, ap f u)) (λ (u : m < x). omega (arith, rising m x e q u)) (lt-suc-cases {i = m} {n = x} (omega arith)))), q, z);
  }

  pub onto-count : (n k : ℕ) → Onto p f n k → count p n ≡ k
  unfolding count bit
  onto-count zero k o = by_less 0 k (λ l. let (m, h, e, q) = o.onto 0 l in absurd (omega arith)) (λ l. omega arith)
  onto-count (suc n) k o =
      by_test (p n)
      (λ e.
      let l : f n < k = o.node n (omega arith) e in
      -- the last that passes has the greatest number
      let last : f n + 1 ≡ k = by_less (f n + 1) k
      (λ h. let (m, x, q, z) = o.onto (f n + 1) h in
      absurd (⊎_elim (λ (u : m ≡ n). omega (arith, ap f u)) (λ (u : m < n). omega (arith, rising m n q e u)) (lt-suc-cases x)))
      (λ h. omega arith) in
      rw e (omega (arith, last, onto-count n (f n) (lower (suc n) k n o (omega arith) e))))
      (λ e. rw e (let z = onto-count n k (record {
        node = λ m l h. o.node m (omega arith) h;
        onto = λ i l. let (m, h, q, z) = o.onto i l in
            (m, ⊎_elim (λ (u : m ≡ n). true-false (p n) (rw u at q) e) (λ (u : m < n). u) (lt-suc-cases h), q, z);
      }) in omega arith))

  pub onto-rank : (n k m : ℕ) → Onto p f n k → m < n → p m ≡ true → f m ≡ count p m
  onto-rank n k m o l e = sym (onto-count m (f m) (lower n k m o l e))
