-- Sums.
-- a turn of a loop
use Rattle.scan.proofs.Basics.{ℕ, zero, suc, ◌+◌, ◌*◌, ◌/◌, ◌%◌, ◌≤◌, ◌<◌, add-one, arith, ◌≡◌, refl, ◌∙◌, ⊎_elim, Bool, true, false, cond, eqb}
use Prim.Native.Nat.{zero-le}
use native.Mathlib.Nat.{add-zero, zero-mul, suc-mul, mul-add-div_right, mul-add-mod_self_right, div-eq_of_lt, mod-eq_of_lt}
use Rattle.scan.proofs.Tests.{eqb-true, eq-eqb, by_test, not-true→false, lt-suc-cases}
use Rattle.scan.specs.Scan.{any, count, sum}
use Rattle.scan.proofs.Every.{any-in, any_out}
use Rattle.scan.proofs.Count.{count_add, count-ext}

pub sum_more : (f : ℕ → ℕ) (i : ℕ) → sum f (i + 1) ≡ sum f i + f i
unfolding sum
sum_more f i = rw (add-one)

pub sum_mono : (f g : ℕ → ℕ) (n : ℕ) → ((i : ℕ) → i < n → f i ≤ g i) → sum f n ≤ sum g n
unfolding sum
sum_mono f g zero h = zero-le
sum_mono f g (suc n) h = omega (arith, h n (omega arith), sum_mono f g n (λ i l. h i (omega arith)))

pub sum-ext : (f g : ℕ → ℕ) (n : ℕ) → ((i : ℕ) → i < n → f i ≡ g i) → sum f n ≡ sum g n
unfolding sum
sum-ext f g zero h = refl
sum-ext f g (suc n) h = omega (arith, h n (omega arith), sum-ext f g n (λ i l. h i (omega arith)))

pub sum_zeros : (f : ℕ → ℕ) (n : ℕ) → ((i : ℕ) → i < n → f i ≡ 0) → sum f n ≡ 0
unfolding sum
sum_zeros f zero h = refl
sum_zeros f (suc n) h = omega (arith, h n (omega arith), sum_zeros f n (λ i l. h i (omega arith)))

pub sum-plus : (f g : ℕ → ℕ) (n : ℕ) → sum (λ i. f i + g i) n ≡ sum f n + sum g n
unfolding sum
sum-plus f g zero = refl
sum-plus f g (suc n) = omega (arith, sum-plus f g n)

-- larger by d at x
sum-larger : (f g : ℕ → ℕ) (n x d : ℕ) → ((i : ℕ) → i < n → f i ≤ g i) → x < n → f x + d ≤ g x → sum f n + d ≤ sum g n
unfolding sum
sum-larger f g zero x d h l e = absurd (omega arith)
sum-larger f g (suc n) x d h l e =
    ⊎_elim (λ q. omega (arith, sum_mono f g n (λ i l. h i (omega arith)), rw q at e))
    (λ p. omega (arith, sum-larger f g n x d (λ i l. h i (omega arith)) p e, h n (omega arith))) (lt-suc-cases l)

-- a sum over k different numbers below n is at most the sum over all
pub sum-distinct : (d f : ℕ → ℕ) (k n : ℕ) → ((i : ℕ) → i < k → f i < n) → ((i j : ℕ) → i < j → j < k → f i ≡ f j → ⊥) → sum (λ i. d (f i)) k ≤ sum d n
unfolding sum
sum-distinct d f k n h u = omega (arith, many k h u, sum_mono (masked k) d n (λ v l. under k v))
  where
    is : ℕ → ℕ → Bool
    is v i = eqb (f i) v

    masked : ℕ → ℕ → ℕ
    masked k v = cond (any (is v) k) (d v) 0

    under : (k v : ℕ) → masked k v ≤ d v
    under k v = go (any (is v) k)
      where
        go : (b : Bool) → cond b (d v) 0 ≤ d v
        go true = omega arith
        go false = zero-le

    grow : (k v : ℕ) → masked k v ≤ masked (suc k) v
    grow k v =
        by_test (any (is v) k) (λ e. let (i, l, q) = any_out (is v) k e in rw (e, any-in (is v) (suc k) i (omega arith) q) (omega arith)) (λ e. rw e zero-le)

    many : (k : ℕ) → ((i : ℕ) → i < k → f i < n) → ((i j : ℕ) → i < j → j < k → f i ≡ f j → ⊥) → sum (λ i. d (f i)) k ≤ sum (masked k) n
    many zero h u = zero-le
    many (suc k) h u = omega (
      arith,
      many k (λ i l. h i (omega arith)) (λ i j p q. u i j p (omega arith)),
      sum-larger (masked k) (masked (suc k)) n (f k) (d (f k)) (λ v l. grow k v) (h k (omega arith))
          (rw (
            not-true→false (any (is (f k)) k) (λ e. let (i, p, q) = any_out (is (f k)) k e in u i k p (omega arith) (eqb-true (f i) (f k) q)),
            any-in (is (f k)) (suc k) k (omega arith) (eq-eqb (f k) (f k) refl),
          ) (omega arith)),
    )

-- a count over n rows of d is the sum of the rows' counts
pub count-rows : (g : ℕ → ℕ → Bool) (n d : ℕ) → count (λ k. g (k / d) (k % d)) (n * d) ≡ sum (λ i. count (g i) d) n
unfolding sum
count-rows g zero d = rw (zero-mul d) (unfold count in refl)
count-rows g (suc n) d =
    rw (suc-mul n d) (count_add (λ k. g (k / d) (k % d)) (n * d) d ∙ omega (arith, count-rows g n d, count-ext (λ i. g ((n * d + i) / d) ((n * d + i) % d)) (g n) d row))
  where
    row : (i : ℕ) → i < d → g ((n * d + i) / d) ((n * d + i) % d) ≡ g n i
    row i l = rw (mul-add-div_right {m = d} (omega arith) n i, mul-add-mod_self_right n d i, div-eq_of_lt l, mod-eq_of_lt l, add-zero n)
