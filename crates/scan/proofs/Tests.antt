-- Tests and their truth: how a Bool is taken apart and put together.
use Rattle.scan.proofs.Basics.{ℕ, suc, ◌≤◌, ◌<◌, arith, ◌≡◌, refl, sym, ap, ◌⊎◌, inl, inr, ◌↔◌, Bool, true, false, not, ◌&&◌, ◌||◌, ltb, eqb}
use native.Mathlib.Nat.{eq-or-lt_of_le, le_of_suc-le-suc}
pub use borrow.Author.Tests.{ltb-true, ltb-false, lt-ltb, le-ltb, leb-true, leb-false, le-leb, lt-leb, eqb-true, eqb-false, eq-eqb, ne_eqb, not-true, not-false}

-- both outcomes of a test, each with its equation
pub by_test {ℓ} : {C : Type ℓ} (b : Bool) → (b ≡ true → C) → (b ≡ false → C) → C
by_test true f g = f refl
by_test false f g = g refl

pub by_less {ℓ} : {C : Type ℓ} (a b : ℕ) → (a < b → C) → (b ≤ a → C) → C
by_less a b f g = by_test (ltb a b) (λ e. f (ltb-true a b e)) (λ e. g (ltb-false a b e))

pub by_equal {ℓ} : {C : Type ℓ} (a b : ℕ) → (a ≡ b → C) → ((a ≡ b → ⊥) → C) → C
by_equal a b f g = by_test (eqb a b) (λ e. f (eqb-true a b e)) (λ e. g (eqb-false a b e))

pub true-false {ℓ} : {C : Type ℓ} (b : Bool) → b ≡ true → b ≡ false → C
true-false b p q = let z : ◌≡◌ {A = ℕ} 0 1 = cc in absurd (omega arith)

pub not-true→false : (b : Bool) → (b ≡ true → ⊥) → b ≡ false
not-true→false true h = absurd (h refl)
not-true→false false h = refl

pub not-false→true : (b : Bool) → (b ≡ false → ⊥) → b ≡ true
not-false→true true h = refl
not-false→true false h = absurd (h refl)

pub iff→eq : (a b : Bool) → (a ≡ true → b ≡ true) → (b ≡ true → a ≡ true) → a ≡ b
iff→eq true b f g = sym (f refl)
iff→eq false true f g = g refl
iff→eq false false f g = refl

-- a test that is asked the other way round
pub decides_not : {P : Type 0} (b : Bool) → (b ≡ true → P) → (P → b ≡ true) → (not b ≡ false) ↔ P
decides_not true f g = (λ e. f refl, λ p. refl)
decides_not false f g = (λ e. true-false true refl e, λ p. ap not (g p))

-- what is asked only where a holds
pub decides-unless : {A B : Type 0} (a b : Bool) → (a ≡ true) ↔ A → (A → (b ≡ true) ↔ B) → ((a && not b) ≡ false) ↔ (A → B)
decides-unless true b f g = let x = f.0 refl in let (h, k) = decides_not b (g x).0 (g x).1 in (λ e y. h e, λ h'. k (h' x))
decides-unless false b f g = (λ e x. true-false false (f.1 x) refl, λ h. refl)

pub and_left : (a b : Bool) → (a && b) ≡ true → a ≡ true
and_left true b e = refl
and_left false b e = e

pub and_right : (a b : Bool) → (a && b) ≡ true → b ≡ true
and_right true b e = e
and_right false b e = cc

pub and_both : (a b : Bool) → a ≡ true → b ≡ true → (a && b) ≡ true
and_both a b p q = cc

pub and-true : (b : Bool) → (b && true) ≡ b
and-true true = refl
and-true false = refl

pub or_left : (a b : Bool) → a ≡ true → (a || b) ≡ true
or_left a b p = cc

pub or_right : (a b : Bool) → b ≡ true → (a || b) ≡ true
or_right true b p = refl
or_right false b p = p

pub or_cases : (a b : Bool) → (a || b) ≡ true → (a ≡ true) ⊎ (b ≡ true)
or_cases true b p = inl refl
or_cases false b p = inr p

pub or-none-left : (a b : Bool) → (a || b) ≡ false → a ≡ false
or-none-left true b h = h
or-none-left false b h = refl

pub or-none-right : (a b : Bool) → (a || b) ≡ false → b ≡ false
or-none-right true b h = cc
or-none-right false b h = h

pub lt-suc-cases : {i n : ℕ} → i < suc n → (i ≡ n) ⊎ (i < n)
lt-suc-cases h = eq-or-lt_of_le (le_of_suc-le-suc h)
