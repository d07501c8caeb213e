-- How many indices pass: subsets, proper subsets, rows, and the pigeonhole principle.
use Rattle.scan.proofs.Basics.{ℕ, zero, suc, ◌+◌, ◌≤◌, ◌<◌, add-one, arith, ◌≡◌, refl, ⊎_elim, ◌↔◌, Bool, true, false, ltb, eqb}
use Prim.Native.Nat.{zero-le}
use native.Mathlib.Nat.{add-zero, add-suc}
use native.Mathlib.Decide.{dec_lt}
use Rattle.scan.proofs.Tests.{eqb-true, eqb-false, eq-eqb, by_test, true-false, not-true→false, lt-suc-cases}
use Rattle.scan.specs.Scan.{any, bit, count}
use Rattle.scan.proofs.Every.{any-in, any_out}

pub bit_le : (b : Bool) → bit b ≤ 1
unfolding bit
bit_le true = omega arith
bit_le false = omega arith

pub bit-one : (b : Bool) → (bit b ≡ 1) ↔ (b ≡ true)
unfolding bit
bit-one true = (λ e. refl, λ e. refl)
bit-one false = (λ e. absurd (omega arith), λ e. true-false false e refl)

pub bit-mark : (b : Bool) → ltb 0 (bit b) ≡ b
unfolding bit
bit-mark true = refl
bit-mark false = refl

bit-mono : (a b : Bool) → (a ≡ true → b ≡ true) → bit a ≤ bit b
unfolding bit
bit-mono true b h = rw (h refl) (omega arith)
bit-mono false b h = zero-le

bit_inj : (a b : Bool) → bit a ≡ bit b → b ≡ true → a ≡ true
unfolding bit
bit_inj true b h e = refl
bit_inj false true h e = absurd (omega arith)
bit_inj false false h e = e

-- a turn of a loop
pub count-more : (f : ℕ → Bool) (i : ℕ) → count f (i + 1) ≡ count f i + bit (f i)
unfolding count
count-more f i = rw (add-one)

pub count-le : (f : ℕ → Bool) (n : ℕ) → count f n ≤ n
unfolding count
count-le f zero = zero-le
count-le f (suc n) = omega (arith, bit_le (f n), count-le f n)

pub count-ext : (f g : ℕ → Bool) (n : ℕ) → ((i : ℕ) → i < n → f i ≡ g i) → count f n ≡ count g n
unfolding count
count-ext f g zero h = refl
count-ext f g (suc n) h = rw (h n (omega arith), count-ext f g n (λ i l. h i (omega arith)))

pub count_add : (f : ℕ → Bool) (a b : ℕ) → count f (a + b) ≡ count f a + count (λ i. f (a + i)) b
unfolding count
count_add f a zero = rw (add-zero a) (omega arith)
count_add f a (suc b) = rw (add-suc a b) (omega (arith, count_add f a b))

pub count-mono : (f g : ℕ → Bool) (n : ℕ) → ((i : ℕ) → i < n → f i ≡ true → g i ≡ true) → count f n ≤ count g n
unfolding count
count-mono f g zero h = zero-le
count-mono f g (suc n) h = omega (arith, bit-mono (f n) (g n) (h n (omega arith)), count-mono f g n (λ i l. h i (omega arith)))

-- a subset that is as many is the whole
pub count-eq : (f g : ℕ → Bool) (n : ℕ) → ((i : ℕ) → i < n → f i ≡ true → g i ≡ true) → count f n ≡ count g n → (i : ℕ) → i < n → g i ≡ true → f i ≡ true
unfolding count
count-eq f g zero h e i l p = absurd (omega arith)
count-eq f g (suc n) h e i l p =
    let low : count f n ≤ count g n = count-mono f g n (λ i l. h i (omega arith)) in
    let top : bit (f n) ≤ bit (g n) = bit-mono (f n) (g n) (h n (omega arith)) in
    ⊎_elim (λ q. rw q (bit_inj (f n) (g n) (omega arith) (rw q at p))) (λ m. count-eq f g n (λ i l. h i (omega arith)) (omega arith) i m p)
    (lt-suc-cases l)

-- a proper subset is fewer
pub count-strict : (f g : ℕ → Bool) (n x : ℕ) → ((i : ℕ) → i < n → f i ≡ true → g i ≡ true) → x < n → f x ≡ false → g x ≡ true → count f n < count g n
count-strict f g n x h l p q =
    by_test (eqb (count f n) (count g n)) (λ e. true-false (f x) (count-eq f g n h (eqb-true (count f n) (count g n) e) x l q) p)
    (λ e. omega (arith, count-mono f g n h, eqb-false (count f n) (count g n) e))

-- k different numbers below n: k is at most n
pub pigeonhole : (f : ℕ → ℕ) (k n : ℕ) → ((i : ℕ) → i < k → f i < n) → ((i j : ℕ) → i < j → j < k → f i ≡ f j → ⊥) → k ≤ n
pigeonhole f k n h d = omega (arith, many k h d, count-le (hit k) n)
  where
    is : ℕ → ℕ → Bool
    is v i = eqb (f i) v

    hit : ℕ → ℕ → Bool
    hit k v = any (is v) k

    many : (k : ℕ) → ((i : ℕ) → i < k → f i < n) → ((i j : ℕ) → i < j → j < k → f i ≡ f j → ⊥) → k ≤ count (hit k) n
    many zero h d = zero-le
    many (suc k) h d = omega (
      arith,
      many k (λ i l. h i (omega arith)) (λ i j p q. d i j p (omega arith)),
      count-strict (hit k) (hit (suc k)) n (f k)
          (λ v l e. let (i, p, q) = any_out (is v) k e in any-in (is v) (suc k) i (omega arith) q)
          (h k (omega arith))
          (not-true→false (hit k (f k)) (λ e. let (i, p, q) = any_out (is (f k)) k e in d i k p (omega arith) (eqb-true (f i) (f k) q)))
          (any-in (is (f k)) (suc k) k (omega arith) (eq-eqb (f k) (f k) refl)),
    )

pub count-full : (f : ℕ → Bool) (n : ℕ) → ((i : ℕ) → i < n → f i ≡ true) → count f n ≡ n
unfolding count bit
count-full f zero h = refl
count-full f (suc n) h = rw (h n (omega arith)) (let z = count-full f n (λ i l. h i (omega arith)) in omega arith)

-- what passes below r and not from there on is passed by r indices
pub count-prefix : (f : ℕ → Bool) (n r : ℕ) → r ≤ n → ((i : ℕ) → i < r → f i ≡ true) → ((i : ℕ) → r ≤ i → i < n → f i ≡ false) → count f n ≡ r
unfolding count bit
count-prefix f zero r l below above = omega arith
count-prefix f (suc n) r l below above =
    elim (dec_lt n r) [
      | yes p ↦ let e : r ≡ suc n = omega arith in rw (below n p) (let z = count-full f n (λ i m. below i (omega arith)) in omega arith)
      | no p ↦ rw (above n (omega arith) (omega arith)) (let z = count-prefix f n r (omega arith) below (λ i m k. above i m (omega arith)) in omega arith)
    ]
