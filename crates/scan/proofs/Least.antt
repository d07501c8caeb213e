-- The least index that passes.
use Rattle.scan.proofs.Basics.{ℕ, ◌≤◌, ◌<◌, arith, ◌≡◌, refl, ap, Bool, true, false, ltb, leb, Option, none, some, option_get_or}
use Rattle.scan.proofs.Tests.{ltb-true, ltb-false, leb-true, leb-false, by_test, true-false}
use Rattle.scan.specs.Scan.{any, first, passing, least}
use Rattle.scan.proofs.Every.{any-before}
use Rattle.scan.proofs.First.{when-some, when-none, first-at, first-all, first-ext}

passing-some : (f : ℕ → Bool) (i a : ℕ) → passing f i ≡ some a → (f i ≡ true) × (i ≡ a)
unfolding passing
passing-some f i a e = when-some (f i) i a e

passing-none : (f : ℕ → Bool) (i : ℕ) → passing f i ≡ none → f i ≡ false
unfolding passing
passing-none f i e = when-none (f i) i e

-- either nothing passes and it is n, or it is an index that passes with none before it
pub record Least (f : ℕ → Bool) (n i : ℕ) : Type 0 where
  pub within : i ≤ n
  pub hit : i < n → f i ≡ true
  pub low : (j : ℕ) → j < i → f j ≡ false

pub least-is : (f : ℕ → Bool) (n : ℕ) → Least f n (least f n)
unfolding least
least-is f n = go (first (passing f) n) refl
  where
    go : (o : Option ℕ) → first (passing f) n ≡ o → Least f n (option_get_or o n)
    go none e = record { within = omega arith; hit = λ l. absurd (omega arith); low = λ j l. passing-none f j (first-all (passing f) n e j l) }
    go (some a) e =
        let (i, l, h, b) = first-at (passing f) n a e in
        let (t, q) = passing-some f i a h in
        record { within = omega arith; hit = λ _. rw (← q) t; low = λ j m. passing-none f j (b j (omega arith)) }

pub least-le : (f : ℕ → Bool) (n : ℕ) → least f n ≤ n
least-le f n = (least-is f n).within

pub least-hit : (f : ℕ → Bool) (n : ℕ) → least f n < n → f (least f n) ≡ true
least-hit f n l = (least-is f n).hit l

pub least-low : (f : ℕ → Bool) (n i : ℕ) → i < least f n → f i ≡ false
least-low f n i l = (least-is f n).low i l

-- an index that passes bounds it
pub least-of : (f : ℕ → Bool) (n i : ℕ) → f i ≡ true → least f n ≤ i
least-of f n i e =
    by_test (leb (least f n) i) (λ q. leb-true (least f n) i q) (λ q. true-false (f i) e (least-low f n i (leb-false (least f n) i q)))

pub least-ext : (f g : ℕ → Bool) (n : ℕ) → ((i : ℕ) → i < n → f i ≡ g i) → least f n ≡ least g n
unfolding least passing
least-ext f g n h = ap (λ (o : Option ℕ). option_get_or o n) (first-ext (passing f) (passing g) n (λ i l. rw (h i l)))

-- ---- a loop that looks for it

pub least-unique : (f : ℕ → Bool) (n i : ℕ) → Least f n i → least f n ≡ i
least-unique f n i h =
    let top = least-le f n in
    by_test (ltb (least f n) i) (λ q. let l = ltb-true (least f n) i q in true-false (f (least f n)) (least-hit f n (omega (arith, h.within))) (h.low _ l))
    (λ q. by_test (ltb i (least f n)) (λ r. let l = ltb-true i (least f n) r in true-false (f i) (h.hit (omega arith)) (least-low f n i l))
    (λ r. let a = ltb-false (least f n) i q in let b = ltb-false i (least f n) r in omega arith))

-- left at an index that passes
pub least-found : (f : ℕ → Bool) (n i : ℕ) → any f i ≡ false → f i ≡ true → i < n → least f n ≡ i
least-found f n i h e l = least-unique f n i (record { within = omega arith; hit = λ _. e; low = any-before f i h })

-- run out
pub least-none : (f : ℕ → Bool) (n : ℕ) → any f n ≡ false → least f n ≡ n
least-none f n h = least-unique f n n (record { within = omega arith; hit = λ l. absurd (omega arith); low = any-before f n h })
