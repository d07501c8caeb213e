-- A class is known by its least member: two numbers are equivalent exactly when their leaders are equal.
use Rattle.scan.proofs.Basics.{ℕ, ◌≤◌, ◌<◌, arith, ◌≡◌, Bool, true}
use mathlib.Core.Logic.Iff
use Rattle.scan.proofs.Tests.{by_less}
use Rattle.scan.proofs.Least.{least-le, least-hit, least-of, least-ext}
use Rattle.automaton.specs.Equivalence.{in_class, leader_by, same_class}
use Rattle.scan.proofs.Decide.{eqb↔, equal↔}

pub record IsEquivalence (r : ℕ → ℕ → Bool) : Type 0 where
  pub reflexive : (n : ℕ) → r n n ≡ true
  pub symmetric : (n m : ℕ) → r n m ≡ true → r m n ≡ true
  pub transitive : (n m p : ℕ) → r n m ≡ true → r m p ≡ true → r n p ≡ true

pub leader-le : (r : ℕ → ℕ → Bool) (n : ℕ) → leader_by r n ≤ n
unfolding leader_by
leader-le r n = least-le (in_class r n) n

pub leader-least : (r : ℕ → ℕ → Bool) (n m : ℕ) → r m n ≡ true → leader_by r n ≤ m
unfolding leader_by in_class
leader-least r n m e = least-of (in_class r n) n m e

pub leader-ext : (r s : ℕ → ℕ → Bool) (n : ℕ) → ((m : ℕ) → m < n → r m n ≡ s m n) → leader_by r n ≡ leader_by s n
unfolding leader_by in_class
leader-ext r s n h = least-ext (in_class r n) (in_class s n) n h

module _ (r : ℕ → ℕ → Bool) (E : IsEquivalence r) where
  pub leader-member : (n : ℕ) → r (leader_by r n) n ≡ true
  unfolding leader_by in_class
  leader-member n =
      by_less (leader_by r n) n (least-hit (in_class r n) n)
      (λ l. let e : leader_by r n ≡ n = omega (arith, leader-le r n) in rw e (E.reflexive n))

  pub leader-of-equivalent : (n m : ℕ) → r n m ≡ true → leader_by r n ≡ leader_by r m
  leader-of-equivalent n m e = omega (
    arith,
    leader-least r n (leader_by r m) (E.transitive (leader_by r m) m n (leader-member m) (E.symmetric n m e)),
    leader-least r m (leader_by r n) (E.transitive (leader_by r n) n m (leader-member n) e),
  )

  pub equivalent-by-leader : (n m : ℕ) → leader_by r n ≡ leader_by r m → r n m ≡ true
  equivalent-by-leader n m q = E.transitive n (leader_by r n) m (E.symmetric (leader_by r n) n (leader-member n)) (rw q (leader-member m))

  pub leader-test : (n m : ℕ) → same_class (leader_by r) n m ≡ r n m
  unfolding same_class
  leader-test n m = equal↔ _ _ (eqb↔ _ _) Iff.rfl (equivalent-by-leader n m, leader-of-equivalent n m)
