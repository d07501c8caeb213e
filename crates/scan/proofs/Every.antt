-- Every index passes, some index passes.
use Rattle.scan.proofs.Basics.{ℕ, zero, suc, ◌+◌, ◌<◌, add-one, arith, ◌≡◌, refl, sym, ◌∙◌, ⊎_elim, Bool, true, false, ◌&&◌}
use Rattle.scan.specs.Scan.{all, any}
use Rattle.scan.proofs.Tests.{true-false, not-true→false, and_left, and_right, and_both, and-true, or_left, or_right, or_cases, lt-suc-cases}

pub all-out : (f : ℕ → Bool) (n : ℕ) → all f n ≡ true → (i : ℕ) → i < n → f i ≡ true
unfolding all
all-out f zero e i h = absurd (omega arith)
all-out f (suc n) e i h =
    ⊎_elim (λ q. rw q (and_right (all f n) (f n) e)) (λ l. all-out f n (and_left (all f n) (f n) e) i l) (lt-suc-cases h)

pub all_in : (f : ℕ → Bool) (n : ℕ) → ((i : ℕ) → i < n → f i ≡ true) → all f n ≡ true
unfolding all
all_in f zero h = refl
all_in f (suc n) h = and_both (all f n) (f n) (all_in f n (λ i l. h i (omega arith))) (h n (omega arith))

pub all-ext : (f g : ℕ → Bool) (n : ℕ) → ((i : ℕ) → i < n → f i ≡ g i) → all f n ≡ all g n
unfolding all
all-ext f g zero h = refl
all-ext f g (suc n) h = cc (h n (omega arith), all-ext f g n (λ i l. h i (omega arith)))

-- an index that fails
pub all-fails : (f : ℕ → Bool) (n i : ℕ) → i < n → f i ≡ false → all f n ≡ false
all-fails f n i l e = not-true→false (all f n) (λ h. true-false (f i) (all-out f n h i l) e)

pub any-in : (f : ℕ → Bool) (n i : ℕ) → i < n → f i ≡ true → any f n ≡ true
unfolding any
any-in f zero i l e = absurd (omega arith)
any-in f (suc n) i l e =
    ⊎_elim (λ q. or_right (any f n) (f n) (rw q at e)) (λ m. or_left (any f n) (f n) (any-in f n i m e)) (lt-suc-cases l)

pub any_out : (f : ℕ → Bool) (n : ℕ) → any f n ≡ true → (i : ℕ) × (i < n) × (f i ≡ true)
unfolding any
any_out f zero e = true-false false e refl
any_out f (suc n) e =
    ⊎_elim (λ p. let (i, l, q) = any_out f n p in (i, omega arith, q)) (λ p. (n, omega arith, p)) (or_cases (any f n) (f n) e)

pub any_none : (f : ℕ → Bool) (n : ℕ) → ((i : ℕ) → i < n → f i ≡ false) → any f n ≡ false
any_none f n h = not-true→false (any f n) (λ e. let (i, l, q) = any_out f n e in true-false (f i) q (h i l))

pub any-before : (f : ℕ → Bool) (n : ℕ) → any f n ≡ false → (i : ℕ) → i < n → f i ≡ false
any-before f n h i l = not-true→false (f i) (λ e. true-false (any f n) (any-in f n i l e) h)

pub any-ext : (f g : ℕ → Bool) (n : ℕ) → ((i : ℕ) → i < n → f i ≡ g i) → any f n ≡ any g n
unfolding any
any-ext f g zero h = refl
any-ext f g (suc n) h = cc (h n (omega arith), any-ext f g n (λ i l. h i (omega arith)))

-- a turn of a loop
pub all_more : (f : ℕ → Bool) (i : ℕ) → all f i ≡ true → f i ≡ true → all f (i + 1) ≡ true
unfolding all
all_more f i h e = rw (add-one) (and_both (all f i) (f i) h e)

pub all-next : (f : ℕ → Bool) (i : ℕ) → all f (i + 1) ≡ (all f i && f i)
unfolding all
all-next f i = rw add-one refl

-- an index that passes keeps what all before it say
pub all-keeps : (f : ℕ → Bool) (i : ℕ) → f i ≡ true → all f i ≡ all f (i + 1)
all-keeps f i e = sym (all-next f i ∙ rw e (and-true (all f i)))

pub any-none-yet : (f : ℕ → Bool) → any f 0 ≡ false
unfolding any
any-none-yet f = refl

pub any-more : (f : ℕ → Bool) (i : ℕ) → any f i ≡ false → f i ≡ false → any f (i + 1) ≡ false
unfolding any
any-more f i h e = rw (add-one, h) e
