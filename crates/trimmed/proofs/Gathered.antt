-- What is gathered rises if the findings rise; and keys of rows rise if the numbers of the rows do.
use Rattle.scan.proofs.Basics.{ℕ, zero, suc, ◌+◌, ◌*◌, ◌<◌, arith, ◌≡◌, ap, Option, some}
use mathlib.Core.List.{append-nil}
use Rattle.scan.proofs.Tests.{by_less}
use Rattle.automaton.proofs.Automaton.{arc-cases}
use Rattle.sequential.proofs.Entries.{row_lt}
use Rattle.encoding.specs.Encoding.{gather}
use Rattle.encoding.proofs.Lists.{Between, between-nil, between-append}

-- the findings of f before n rise and lie below high
module _ (f : ℕ → Option ℕ) where
  pub gather-rising : (n high : ℕ) → ((i j x y : ℕ) → i < j → j < n → f i ≡ some x → f j ≡ some y → x < y) → ((i x : ℕ) → i < n → f i ≡ some x → x < high)
      → Between (gather f n) 0 high
  unfolding gather
  gather-rising zero high up low = between-nil
  gather-rising (suc n) high up low =
      arc-cases (f n)
      (λ e. rw (e, append-nil (gather f n)) (gather-rising n high (λ i j x y l m. up i j x y l (omega arith)) (λ i x l. low i x (omega arith))))
      (λ z e.
      let h : z < high = low n z (omega arith) e in
      rw e (between-append {middle = z} (omega arith) (omega arith) (gather-rising n z (λ i j x y l m. up i j x y l (omega arith)) (λ i x l a. up i n x z l (omega arith) a e)) (record {
        from = λ i l. let q : i ≡ 0 = omega arith in rw q (omega arith);
        below = λ i l. let q : i ≡ 0 = omega arith in rw q (omega arith);
        rising = λ i j l m. absurd (omega arith);
      })))

-- keys of rows of d columns
pub row-rises : (f : ℕ → ℕ) (n t m u d : ℕ) → t < d → u < d → n * d + t < m * d + u → (n < m → f n < f m) → f n * d + t < f m * d + u
row-rises f n t m u d a b l h =
    by_less n m (λ k. omega (arith, row_lt (f n) d t (f m) a (h k)))
    (λ k. by_less m n (λ j. absurd (omega (arith, row_lt m d u n b j)))
    (λ j. let e : n ≡ m = omega arith in rw e (omega (arith, l, ap (λ (x : ℕ). x * d) e))))
