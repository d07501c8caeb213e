-- A buffer whose front is cleared.
-- a front that the buffer has
use Rattle.scan.proofs.Basics.{ℕ, zero, suc, ◌+◌, ◌≤◌, ◌<◌, arith, ◌≡◌, refl, sym, ap, ◌∙◌, List, ◌++◌, length, get_or, take, drop, set, replicate, leb}
use Prim.Native.Nat.{min}
use lib.ListN.{drop_of_length-le}
use lib.Seq.{length-take-le}
use borrow.Author.Fill.{fill_none, fill_more}
use Rattle.scan.proofs.Tests.{leb-true, leb-false, by_test}
use Rattle.scan.specs.Front.{cleared}

pub cleared-whole : (n : ℕ) (words : List ℕ) → n ≤ length words → cleared n words ≡ replicate n 0 ++ drop n words
unfolding cleared
cleared-whole n words l = let e : min n (length words) ≡ n = omega arith in rw e

-- a row of zeros
pub zeros : (n i : ℕ) → get_or {A = ℕ} (replicate n 0) i 0 ≡ 0
zeros zero i = refl
zeros (suc n) zero = refl
zeros (suc n) (suc i) = zeros n i

-- ---- the turns of a loop

pub cleared-none : (words : List ℕ) → words ≡ cleared 0 words
cleared-none words = fill_none words 0 ∙ sym (cleared-whole 0 words (omega arith))

pub cleared_more : (i : ℕ) (words : List ℕ) → i < length words → set (cleared i words) i 0 ≡ cleared (i + 1) words
cleared_more i words l =
    ap (λ (w : List ℕ). set w i 0) (cleared-whole i words (omega arith)) ∙ fill_more i 0 words l ∙ sym (cleared-whole (i + 1) words (omega arith))

-- ---- a front filled at once

pub cleared-front : (m n : ℕ) (words : List ℕ) → m ≡ min n (length words) → replicate (length (take m words)) 0 ++ drop m words ≡ cleared n words
unfolding cleared
cleared-front m n words e =
    rw (length-take-le m words (omega arith), ← e)
    (by_test (leb n (length words)) (λ h. let q : m ≡ n = omega (arith, leb-true n _ h) in rw q)
    (λ h. let l = leb-false n (length words) h in
    rw (drop_of_length-le words {i = m} (omega arith), drop_of_length-le words {i = n} (omega arith))))
