-- To append a digit to decimal text is to multiply the number by ten and add the digit; so the text reads as the number. And how long it is at most.
use Rattle.scan.proofs.Basics.{ℕ, zero, suc, ◌+◌, ◌-◌, ◌*◌, ◌/◌, ◌%◌, ◌≤◌, ◌<◌, arith, ◌≡◌, refl, sym, ap, ◌∙◌, ltb, List, [], ◌∷◌, ◌++◌, length, get_or, length-append}
use Prim.Native.Nat.{◌^◌}
use mathlib.Core.List.{append_assoc}
use native.Mathlib.Nat.{not-suc-le-zero, le_of_suc-le-suc}
use lib.ListN.{get_or-append}
use Rattle.scan.proofs.Tests.{ltb-true, ltb-false, lt-ltb, le-ltb, by_test}
use Rattle.text.specs.Decimal.{digit, digits, decimal}
use Rattle.text.specs.Demands.{read_on}

-- as many more as one likes
enough : (f g n : ℕ) → n < f → n < g → digits f n ≡ digits g n
unfolding digits
enough zero g n k l = absurd (not-suc-le-zero k)
enough (suc f) zero n k l = absurd (not-suc-le-zero l)
enough (suc f) (suc g) n k l = by_test (ltb n 10) (λ e. rw e) (λ e. rw (e, enough f g (n / 10) (omega (arith, ltb-false n 10 e)) (omega (arith, ltb-false n 10 e))))

module _ (n : ℕ) where
  pub decimal-one : n < 10 → digit n ∷ [] ≡ decimal n
  unfolding digits decimal
  decimal-one l = rw (lt-ltb n 10 l)

  pub decimal-more : 10 ≤ n → decimal (n / 10) ++ (digit (n % 10) ∷ []) ≡ decimal n
  unfolding digits decimal
  decimal-more l = rw (le-ltb n 10 l) (ap (λ (t : List ℕ). t ++ (digit (n % 10) ∷ [])) (enough (suc (n / 10)) n (n / 10) (omega arith) (omega arith)))

-- two digits, and two digits more
pub decimal-two : (n : ℕ) → 10 ≤ n → n < 100 → digit (n / 10 % 10) ∷ digit (n % 10) ∷ [] ≡ decimal n
decimal-two n l h =
    let e : n / 10 % 10 ≡ n / 10 = omega arith in
    ap (λ (d : ℕ). digit d ∷ digit (n % 10) ∷ []) e ∙ ap (λ (t : List ℕ). t ++ (digit (n % 10) ∷ [])) (decimal-one (n / 10) (omega arith)) ∙ decimal-more n l

pub decimal-more-two : (n : ℕ) → 100 ≤ n → decimal (n / 100) ++ (digit (n / 10 % 10) ∷ digit (n % 10) ∷ []) ≡ decimal n
decimal-more-two n l =
    let e : n / 10 / 10 ≡ n / 100 = omega arith in
    let x : decimal (n / 100) ++ (digit (n / 10 % 10) ∷ []) ≡ decimal (n / 10) = rw (← e) (decimal-more (n / 10) (omega arith)) in
    sym (append_assoc (decimal (n / 100)) (digit (n / 10 % 10) ∷ []) (digit (n % 10) ∷ [])) ∙ ap (λ (t : List ℕ). t ++ (digit (n % 10) ∷ [])) x ∙ decimal-more n (omega arith)

-- what holds of decimal text where it holds of one digit, and of a text with a digit behind it
by_digits : (Q : ℕ → List ℕ → Type 0) → ((n : ℕ) → n < 10 → Q n (digit n ∷ []))
    → ((n : ℕ) → 10 ≤ n → Q (n / 10) (decimal (n / 10)) → Q n (decimal (n / 10) ++ (digit (n % 10) ∷ []))) → (n : ℕ) → Q n (decimal n)
by_digits Q one more n = below (suc n) n (omega arith)
  where
    below : (k n : ℕ) → n < k → Q n (decimal n)
    below zero n l = absurd (not-suc-le-zero l)
    below (suc k) n l =
        by_test (ltb n 10) (λ e. rw (← decimal-one n (ltb-true n 10 e)) (one n (ltb-true n 10 e)))
        (λ e. let m = ltb-false n 10 e in rw (← decimal-more n m) (more n m (below k (n / 10) (omega arith))))

-- ---- it reads as the number

read_more : (n : ℕ) (bytes : List ℕ) (b : ℕ) → read_on n (bytes ++ (b ∷ [])) ≡ 10 * read_on n bytes + (b - digit 0)
unfolding read_on
read_more n [] b = refl
read_more n (x ∷ bytes) b = read_more (10 * n + (x - digit 0)) bytes b

pub reads : (n : ℕ) → read_on 0 (decimal n) ≡ n
unfolding read_on
reads = by_digits (λ n t. read_on 0 t ≡ n) (λ n l. omega arith) (λ n l e. read_more 0 (decimal (n / 10)) (digit (n % 10)) ∙ omega (arith, e))

-- ---- its length

pub decimal-some : (n : ℕ) → 1 ≤ length (decimal n)
decimal-some = by_digits (λ n t. 1 ≤ length t) (λ n l. omega arith) (λ n l e. simp length-append (omega arith))

pub decimal-length : (k n : ℕ) → n < 10 ^ suc k → length (decimal n) ≤ suc k
decimal-length zero n l = rw (← decimal-one n (omega arith)) (omega arith)
decimal-length (suc k) n l =
    by_test (ltb n 10) (λ e. rw (← decimal-one n (ltb-true n 10 e)) (omega arith))
    (λ e. rw (← decimal-more n (ltb-false n 10 e)) (simp length-append (omega (arith, decimal-length k (n / 10) (omega (arith, l))))))

-- ---- its digits

abbrev Digits : List ℕ → Type 0
Digits t = (i : ℕ) → i < length t → (digit 0 ≤ get_or t i 0) × (get_or t i 0 ≤ digit 9)

one_more : (t : List ℕ) (d : ℕ) → d ≤ 9 → Digits t → Digits (t ++ (digit d ∷ []))
one_more [] d k h zero l = (omega arith, omega arith)
one_more [] d k h (suc i) l = absurd (not-suc-le-zero (le_of_suc-le-suc l))
one_more (x ∷ t) d k h zero l = h 0 (omega arith)
one_more (x ∷ t) d k h (suc i) l = one_more t d k (λ j m. h (suc j) (omega arith)) i (le_of_suc-le-suc l)

pub are-digits : (n : ℕ) → Digits (decimal n)
are-digits =
    by_digits (λ n t. Digits t) (λ n l. one_more [] n (omega arith) (λ i m. absurd (not-suc-le-zero m))) (λ n l h. one_more (decimal (n / 10)) (n % 10) (omega arith) h)

pub no_zero_first : (n : ℕ) → 0 < n → digit 0 < get_or (decimal n) 0 0
no_zero_first =
    by_digits (λ n t. 0 < n → digit 0 < get_or t 0 0) (λ n l h. omega arith)
    (λ n l h m. rw (get_or-append (decimal (n / 10)) (digit (n % 10) ∷ []) 0 0 (decimal-some (n / 10))) (h (omega arith)))
