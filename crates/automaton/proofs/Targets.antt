-- Two arcs whose targets are related: both missing, or both there with the relation between the targets.
use Rattle.scan.proofs.Basics.{ℕ, ◌≡◌, refl, sym, Bool, true, false, Option, none, some}
use Rattle.scan.specs.Scan.{found}
use Rattle.scan.proofs.Tests.{true-false}
use Rattle.scan.proofs.First.{none-some}
use Rattle.automaton.specs.Equivalence.{equal_arcs}

abbrev pub Targets : (ℕ → ℕ → Type 0) → Option ℕ → Option ℕ → Type 0
Targets R none none = Unit {0}
Targets R none (some b) = ⊥
Targets R (some a) none = ⊥
Targets R (some a) (some b) = R a b

-- a test as a relation
abbrev pub Holds : (ℕ → ℕ → Bool) → ℕ → ℕ → Type 0
Holds r a b = r a b ≡ true

module _ (R : ℕ → ℕ → Type 0) where
  pub targets-none : (x y : Option ℕ) → x ≡ none → y ≡ none → Targets R x y
  targets-none x y p q = rw (p, q) tt

  pub targets-some : (x y : Option ℕ) (a b : ℕ) → x ≡ some a → y ≡ some b → R a b → Targets R x y
  targets-some x y a b p q r = rw (p, q) r

  -- both forms of a pair of arcs, each with its equations
  pub targets-cases {ℓ} : {C : Type ℓ} (x y : Option ℕ) → Targets R x y → (x ≡ none → y ≡ none → C) → ((a b : ℕ) → x ≡ some a → y ≡ some b → R a b → C) → C
  targets-cases none none r f g = f refl refl
  targets-cases none (some b) r f g = absurd r
  targets-cases (some a) none r f g = absurd r
  targets-cases (some a) (some b) r f g = g a b refl refl r

  -- where the first is there, so is the second
  pub targets-right : (x y : Option ℕ) (a : ℕ) → Targets R x y → x ≡ some a → (b : ℕ) × (y ≡ some b) × R a b
  targets-right x y a r e = targets-cases x y r (λ p q. none-some x a p e) (λ c b p q s. let h : c ≡ a = cc in (b, q, rw (← h) s))

  -- both are missing or neither is
  pub targets-found : (x y : Option ℕ) → found x ≡ found y → ((a b : ℕ) → x ≡ some a → y ≡ some b → R a b) → Targets R x y
  unfolding found
  targets-found none none e h = tt
  targets-found none (some b) e h = true-false true refl (sym e)
  targets-found (some a) none e h = true-false true refl e
  targets-found (some a) (some b) e h = h a b refl refl

  pub targets-refl : ((a : ℕ) → R a a) → (x : Option ℕ) → Targets R x x
  targets-refl h none = tt
  targets-refl h (some a) = h a

module _ (R S : ℕ → ℕ → Type 0) where
  pub targets-map : ((a b : ℕ) → R a b → S a b) → (x y : Option ℕ) → Targets R x y → Targets S x y
  targets-map h x y r = targets-cases R x y r (targets-none S x y) (λ a b p q s. targets-some S x y a b p q (h a b s))

  pub targets-sym : ((a b : ℕ) → R a b → S b a) → (x y : Option ℕ) → Targets R x y → Targets S y x
  targets-sym h x y r = targets-cases R x y r (λ p q. targets-none S y x q p) (λ a b p q s. targets-some S y x b a q p (h a b s))

pub targets-trans : (R S Q : ℕ → ℕ → Type 0) → ((a b c : ℕ) → R a b → S b c → Q a c) → (x y z : Option ℕ) → Targets R x y → Targets S y z → Targets Q x z
targets-trans R S Q h none none none r s = tt
targets-trans R S Q h none none (some c) r s = s
targets-trans R S Q h none (some b) z r s = absurd r
targets-trans R S Q h (some a) none z r s = absurd r
targets-trans R S Q h (some a) (some b) none r s = s
targets-trans R S Q h (some a) (some b) (some c) r s = h a b c r s

-- ---- the test

pub equal_arcs-out : (r : ℕ → ℕ → Bool) (x y : Option ℕ) → equal_arcs r x y ≡ true → Targets (Holds r) x y
equal_arcs-out r none none e = tt
equal_arcs-out r none (some b) e = true-false false e refl
equal_arcs-out r (some a) none e = true-false false e refl
equal_arcs-out r (some a) (some b) e = e

pub equal_arcs-in : (r : ℕ → ℕ → Bool) (x y : Option ℕ) → Targets (Holds r) x y → equal_arcs r x y ≡ true
equal_arcs-in r none none e = refl
equal_arcs-in r none (some b) e = absurd e
equal_arcs-in r (some a) none e = absurd e
equal_arcs-in r (some a) (some b) e = e

-- it looks only at the targets that there are
pub equal_arcs-ext : (r s : ℕ → ℕ → Bool) (x y : Option ℕ) → ((a b : ℕ) → x ≡ some a → y ≡ some b → r a b ≡ s a b) → equal_arcs r x y ≡ equal_arcs s x y
equal_arcs-ext r s none none h = refl
equal_arcs-ext r s none (some b) h = refl
equal_arcs-ext r s (some a) none h = refl
equal_arcs-ext r s (some a) (some b) h = h a b refl refl
