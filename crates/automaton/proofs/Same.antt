-- Nodes that k rounds do not tell apart: an equivalence for each k, finer with each round.
use Rattle.scan.proofs.Basics.{ℕ, zero, suc, ◌<◌, ◌≡◌, refl, sym, ◌∙◌, ◌↔◌, Bool, true, false, eqb, List, [], ◌∷◌}
use Rattle.scan.proofs.Tests.{eqb-true, eq-eqb, true-false, and_left, and_right, and_both}
use Rattle.scan.specs.Scan.{all}
use Rattle.automaton.specs.Automaton.{Automaton}
use Rattle.automaton.specs.Equivalence.{equal_labels, agree, same_in}
use Rattle.scan.proofs.Decide.{all↔, and↔}
use Rattle.automaton.proofs.Targets.{Targets, Holds, targets-refl, targets-map, targets-sym, targets-trans, equal_arcs-out, equal_arcs-in}
use Rattle.automaton.proofs.Leader.{IsEquivalence}

pub equal_labels-out : (xs ys : List ℕ) → equal_labels xs ys ≡ true → xs ≡ ys
unfolding equal_labels
equal_labels-out [] [] e = refl
equal_labels-out [] (y ∷ ys) e = true-false false e refl
equal_labels-out (x ∷ xs) [] e = true-false false e refl
equal_labels-out (x ∷ xs) (y ∷ ys) e =
    cc (eqb-true x y (and_left (eqb x y) (equal_labels xs ys) e), equal_labels-out xs ys (and_right (eqb x y) (equal_labels xs ys) e))

equal_labels-refl : (xs : List ℕ) → equal_labels xs xs ≡ true
unfolding equal_labels
equal_labels-refl [] = refl
equal_labels-refl (x ∷ xs) = and_both (eqb x x) (equal_labels xs xs) (eq-eqb x x refl) (equal_labels-refl xs)

pub equal_labels-in : (xs ys : List ℕ) → xs ≡ ys → equal_labels xs ys ≡ true
equal_labels-in xs ys e = rw e (equal_labels-refl ys)

module _ (A : Automaton) where
  -- ---- a round, taken apart and put together

  pub arcs↔ : (r : ℕ → ℕ → Bool) (n m : ℕ)
      → (all (agree A r n m) A.transitions ≡ true) ↔ ((t : ℕ) → t < A.transitions → Targets (Holds r) (A.arc n t) (A.arc m t))
  unfolding agree
  arcs↔ r n m = all↔ (agree A r n m) A.transitions (λ t l. (equal_arcs-out r (A.arc n t) (A.arc m t), equal_arcs-in r (A.arc n t) (A.arc m t)))

  pub same_in-suc↔ : (k n m : ℕ)
      → (same_in A (suc k) n m ≡ true) ↔ ((A.label n ≡ A.label m) × ((t : ℕ) → t < A.transitions → Targets (Holds (same_in A k)) (A.arc n t) (A.arc m t)))
  unfolding same_in
  same_in-suc↔ k n m = and↔ _ _ (equal_labels-out _ _, equal_labels-in _ _) (arcs↔ (same_in A k) n m)

  pub same_in-label : (k n m : ℕ) → same_in A k n m ≡ true → A.label n ≡ A.label m
  same_in-label zero n m e = unfold same_in in (equal_labels-out (A.label n) (A.label m) e)
  same_in-label (suc k) n m e = ((same_in-suc↔ k n m).0 e).0

  pub same_in-zero : (n m : ℕ) → A.label n ≡ A.label m → same_in A 0 n m ≡ true
  unfolding same_in
  same_in-zero n m e = equal_labels-in (A.label n) (A.label m) e

  -- ---- an equivalence

  same_in-refl : (k n : ℕ) → same_in A k n n ≡ true
  same_in-refl zero n = same_in-zero n n refl
  same_in-refl (suc k) n = (same_in-suc↔ k n n).1 (refl, λ t l. targets-refl (Holds (same_in A k)) (same_in-refl k) (A.arc n t))

  same_in-sym : (k n m : ℕ) → same_in A k n m ≡ true → same_in A k m n ≡ true
  same_in-sym zero n m e = same_in-zero m n (sym (same_in-label 0 n m e))
  same_in-sym (suc k) n m e =
      let (h, a) = (same_in-suc↔ k n m).0 e in
      (same_in-suc↔ k m n).1 (sym h, λ t l. targets-sym (Holds (same_in A k)) (Holds (same_in A k)) (same_in-sym k) (A.arc n t) (A.arc m t) (a t l))

  same_in-trans : (k n m p : ℕ) → same_in A k n m ≡ true → same_in A k m p ≡ true → same_in A k n p ≡ true
  same_in-trans zero n m p e f = same_in-zero n p (same_in-label 0 n m e ∙ same_in-label 0 m p f)
  same_in-trans (suc k) n m p e f =
      let (h, a) = (same_in-suc↔ k n m).0 e in
      let (i, b) = (same_in-suc↔ k m p).0 f in
      let r = Holds (same_in A k) in
      (same_in-suc↔ k n p).1 (h ∙ i, λ t l. targets-trans r r r (same_in-trans k) (A.arc n t) (A.arc m t) (A.arc p t) (a t l) (b t l))

  pub same_in-equivalence : (k : ℕ) → IsEquivalence (same_in A k)
  same_in-equivalence k = record { reflexive = same_in-refl k; symmetric = same_in-sym k; transitive = same_in-trans k }

  -- a round more tells apart what the rounds before it do
  pub same_in-down : (k n m : ℕ) → same_in A (suc k) n m ≡ true → same_in A k n m ≡ true
  same_in-down zero n m e = same_in-zero n m (same_in-label 1 n m e)
  same_in-down (suc k) n m e =
      let (h, a) = (same_in-suc↔ (suc k) n m).0 e in
      (same_in-suc↔ k n m).1 (h, λ t l. targets-map (Holds (same_in A (suc k))) (Holds (same_in A k)) (same_in-down k) (A.arc n t) (A.arc m t) (a t l))
