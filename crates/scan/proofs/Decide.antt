-- How tests that decide clauses are combined: for every index, for some index, for both of two clauses, for one unless another holds, and for two that agree.
use Rattle.scan.proofs.Basics.{ℕ, ◌≤◌, ◌<◌, ◌≡◌, refl, ◌↔◌, Bool, true, false, ◌&&◌, ◌||◌, ltb, leb, eqb}
use mathlib.Core.Bool.{beq}
use Rattle.scan.proofs.Tests.{ltb-true, lt-ltb, leb-true, le-leb, eqb-true, eq-eqb, true-false, iff→eq, and_left, and_right, and_both}
use Rattle.scan.specs.Scan.{all, any}
use Rattle.scan.proofs.Every.{all_in, all-out, any-in, any_out}

pub eqb↔ : (a b : ℕ) → (eqb a b ≡ true) ↔ (a ≡ b)
eqb↔ a b = (eqb-true a b, eq-eqb a b)

pub ltb↔ : (a b : ℕ) → (ltb a b ≡ true) ↔ (a < b)
ltb↔ a b = (ltb-true a b, lt-ltb a b)

pub leb↔ : (a b : ℕ) → (leb a b ≡ true) ↔ (a ≤ b)
leb↔ a b = (leb-true a b, le-leb a b)

module _ {P : ℕ → Type 0} (f : ℕ → Bool) (n : ℕ) (d : (i : ℕ) → i < n → (f i ≡ true) ↔ P i) where
  pub all↔ : (all f n ≡ true) ↔ ((i : ℕ) → i < n → P i)
  all↔ = (λ e i l. (d i l).0 (all-out f n e i l), λ h. all_in f n (λ i l. (d i l).1 (h i l)))

  pub any↔ : (any f n ≡ true) ↔ ((i : ℕ) × (i < n) × P i)
  any↔ = (λ e. let (i, l, q) = any_out f n e in (i, l, (d i l).0 q), λ (i, l, p). any-in f n i l ((d i l).1 p))

module _ {A B : Type 0} where
  pub and↔ : (a b : Bool) → (a ≡ true) ↔ A → (b ≡ true) ↔ B → ((a && b) ≡ true) ↔ (A × B)
  and↔ a b f g = (λ e. (f.0 (and_left a b e), g.0 (and_right a b e)), λ (x, y). and_both a b (f.1 x) (g.1 y))

  pub unless↔ : (a b : Bool) → (a ≡ false) ↔ A → (b ≡ true) ↔ B → ((a || b) ≡ true) ↔ (A → B)
  unless↔ true b f g = (λ e x. true-false true refl (f.1 x), λ h. refl)
  unless↔ false b f g = (λ e x. g.0 e, λ h. g.1 (h (f.0 refl)))

  pub equal↔ : (a b : Bool) → (a ≡ true) ↔ A → (b ≡ true) ↔ B → A ↔ B → a ≡ b
  equal↔ a b f g h = iff→eq a b (λ e. g.1 (h.0 (f.0 e))) (λ e. f.1 (h.1 (g.0 e)))

  pub agree↔ : (a b : Bool) → (a ≡ true) ↔ A → (b ≡ true) ↔ B → (beq a b ≡ true) ↔ (A ↔ B)
  agree↔ true true f g = (λ e. (λ x. g.0 refl, λ y. f.0 refl), λ h. refl)
  agree↔ true false f g = (λ e. true-false false e refl, λ h. g.1 (h.0 (f.0 refl)))
  agree↔ false true f g = (λ e. true-false false e refl, λ h. f.1 (h.1 (g.0 refl)))
  agree↔ false false f g = (λ e. (λ x. g.0 (f.1 x), λ y. f.0 (g.1 y)), λ h. refl)
