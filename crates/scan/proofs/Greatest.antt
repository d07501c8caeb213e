-- The greatest value: it bounds every value, and some value equals it.
-- a turn of a loop
use Rattle.scan.proofs.Basics.{ℕ, zero, suc, ◌+◌, ◌≤◌, ◌<◌, add-one, arith, ◌≡◌, ⊎_elim}
use Prim.Native.Nat.{max}
use native.Mathlib.Decide.{dec_lt}
use Rattle.scan.specs.Scan.{greatest}
use Rattle.scan.proofs.Tests.{lt-suc-cases}

pub greatest-more : (f : ℕ → ℕ) (i : ℕ) → greatest f (i + 1) ≡ max (greatest f i) (f i)
unfolding greatest
greatest-more f i = rw (add-one)

pub greatest-bounds : (f : ℕ → ℕ) (n i : ℕ) → i < n → f i ≤ greatest f n
unfolding greatest
greatest-bounds f zero i l = absurd (omega arith)
greatest-bounds f (suc n) i l = ⊎_elim (λ e. rw e (omega arith)) (λ m. omega (arith, greatest-bounds f n i m)) (lt-suc-cases l)

pub greatest-attained : (f : ℕ → ℕ) (n : ℕ) → 0 < n → (i : ℕ) × (i < n) × (f i ≡ greatest f n)
unfolding greatest
greatest-attained f zero l = absurd (omega arith)
greatest-attained f (suc zero) l = (0, omega arith, omega arith)
greatest-attained f (suc (suc n)) l =
    elim (dec_lt (f (suc n)) (greatest f (suc n))) [
      | yes p ↦ let (i, m, e) = greatest-attained f (suc n) (omega arith) in (i, omega arith, omega arith)
      | no p ↦ (suc n, omega arith, omega arith)
    ]
