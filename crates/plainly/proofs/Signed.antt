-- The difference of two unsigned numbers, with its sign, and sums with it. A table that is filled in order.
use Rattle.scan.proofs.Basics.{ℕ, zero, suc, ◌+◌, ◌-◌, ◌≤◌, ◌<◌, arith, ◌≡◌, ap, ◌∙◌, ◌↔◌, List, length, get_or, set, ltb, get_or-set_same, get_or-set_other}
use lib.IntN.{pos, negsuc, sub_ℕ, ◌+ℤ◌, ◌-ℤ◌}
use lib.Signed.{mag}
use Rattle.scan.proofs.Tests.{by_test, by_equal, ltb-true, ltb-false}

pub difference-small : (a b m : ℕ) → a < m → b < m → mag (pos a -ℤ pos b) < m
difference-small a zero m l k = omega arith
difference-small a (suc b) m l k =
    by_test (ltb a (suc b)) (λ e. let h = ltb-true a (suc b) e in rw e (omega arith)) (λ e. let h = ltb-false a (suc b) e in rw e (omega arith))

-- one more value of f
module _ {A : Type 0} where
  pub stored_one : (f : ℕ → A) (d : A) (l : List A) (i : ℕ) (v : A) → ((j : ℕ) → j < i → get_or l j d ≡ f j) → i < length l → v ≡ f i
      → (j : ℕ) → j < i + 1 → get_or (set l i v) j d ≡ f j
  stored_one f d l i v h k e j m =
      by_equal j i (λ q. rw q (get_or-set_same l i v d k ∙ e)) (λ q. get_or-set_other l i j v d q ∙ h j (less q))
    where
      less : (j ≡ i → ⊥) → j < i
      less q = omega arith

-- ---- the signed sum against the sums of what is counted

negative : {n m : ℕ} → negsuc n ≡ pos m → ⊥
negative e = let z : ◌≡◌ {A = ℕ} 0 1 = cc in omega arith

same : {n m : ℕ} → pos n ≡ pos m → n ≡ m
same e = cc

less_by : (c t n : ℕ) → (sub_ℕ c (suc t) ≡ pos n) ↔ (c ≡ n + suc t)
less_by c t n =
    by_test (ltb c (suc t)) (λ e. let h = ltb-true c (suc t) e in rw e (λ q. absurd (negative q), λ q. absurd (low h q)))
    (λ e. let h = ltb-false c (suc t) e in rw e (λ q. up h (same q), λ q. ap pos (down h q)))
  where
    low : c < suc t → c ≡ n + suc t → ⊥
    low h q = omega arith

    up : suc t ≤ c → c - suc t ≡ n → c ≡ n + suc t
    up h q = omega arith

    down : suc t ≤ c → c ≡ n + suc t → c - suc t ≡ n
    down h q = omega arith

-- a place lands on n where what it held and what is put is n and what is taken
pub lands-counted : (c p t n : ℕ) → (pos c +ℤ (pos p -ℤ pos t) ≡ pos n) ↔ (c + p ≡ n + t)
lands-counted c p zero n = (λ q. let e = same q in omega arith, λ q. ap pos (omega arith))
lands-counted c p (suc t) n =
    by_test (ltb p (suc t)) (λ e. rw e (under (ltb-true p (suc t) e))) (λ e. rw e (over (ltb-false p (suc t) e)))
  where
    over : suc t ≤ p → (pos (c + (p - suc t)) ≡ pos n) ↔ (c + p ≡ n + suc t)
    over h = (λ q. let e = same q in omega arith, λ q. ap pos (omega arith))

    under : p < suc t → (sub_ℕ c (suc (suc t - suc p)) ≡ pos n) ↔ (c + p ≡ n + suc t)
    under h =
        let (f, g) = less_by c (suc t - suc p) n in
        (λ q. let e = f q in omega arith, λ q. g (omega arith))

pub same-change : {p p' t t' : ℕ} → p ≡ p' → t ≡ t' → pos p -ℤ pos t ≡ pos p' -ℤ pos t'
same-change e f = rw (e, f)
