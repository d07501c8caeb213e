-- Tuples as numbers: a component is what was put there, the others stay, and equal components make equal tuples.
use Rattle.scan.proofs.Basics.{ℕ, zero, suc, ◌+◌, ◌*◌, ◌/◌, ◌%◌, ◌≤◌, ◌<◌, arith, ◌≡◌, refl, sym, ap, ◌∙◌, ⊎_elim, ltb}
use native.Mathlib.Nat.{add-mul, mul_assoc, mul_comm, mul-pos, zero-div, zero-mod, mod-lt, mod-eq_of_lt}
use native.Mathlib.Nat.{div-add-mod', mul-add-div_right, mul-add-mod_self_right, div-div-eq-div-mul, div-lt_iff_lt-mul}
use borrow.Author.Tests.{ltb-true, ltb-false}
use Rattle.scan.proofs.Tests.{by_test, lt-suc-cases}
use Rattle.sequential.proofs.Entries.{row-div, row-mod}
use Rattle.composed.specs.Tuples.{tuples, component, replaced}

module _ (size : ℕ → ℕ) where
  pub component-zero : (i : ℕ) → component size i 0 ≡ 0
  unfolding component
  component-zero i = rw (zero-div (tuples size i)) (zero-mod (size i))

  pub component-below : (i s : ℕ) → 0 < size i → component size i s < size i
  unfolding component
  component-below i s l = mod-lt (s / tuples size i) l

  pub tuples-positive : (k : ℕ) → ((i : ℕ) → i < k → 0 < size i) → 0 < tuples size k
  unfolding tuples
  tuples-positive zero h = omega arith
  tuples-positive (suc k) h = mul-pos (tuples-positive k (λ i l. h i (omega arith))) (h k (omega arith))

  -- tuples of more components are made of those of fewer
  tuples-more : (i k : ℕ) → i < k → (c : ℕ) × (tuples size k ≡ c * tuples size (suc i))
  unfolding tuples
  tuples-more i zero l = absurd (omega arith)
  tuples-more i (suc k) l =
      ⊎_elim (λ (e : i ≡ k). (1, rw e (sym (one (tuples size (suc k))))))
      (λ (m : i < k). let (c, e) = tuples-more i k m in (c * size k, larger c e)) (lt-suc-cases l)
    where
      one : (x : ℕ) → 1 * x ≡ x
      one x = omega arith

      swap : (a b d : ℕ) → a * b * d ≡ a * d * b
      swap a b d = mul_assoc a b d ∙ rw (mul_comm b d) (sym (mul_assoc a d b))

      larger : (c : ℕ) → tuples size k ≡ c * tuples size (suc i) → tuples size (suc k) ≡ c * size k * tuples size (suc i)
      larger c e = ap (λ (x : ℕ). x * size k) e ∙ swap c (tuples size (suc i)) (size k)

  module _ (i : ℕ) (some : 0 < size i) (positive : 0 < tuples size i) where
    -- what stands above component i
    above : ℕ → ℕ
    above s = s / tuples size i / size i

    -- what stands below it
    below : ℕ → ℕ
    below s = s % tuples size i

    below-lt : (s : ℕ) → below s < tuples size i
    unfolding below
    below-lt s = mod-lt s positive

    assembled : ℕ → ℕ → ℕ → ℕ
    assembled hi n lo = (hi * size i + n) * tuples size i + lo

    disassemble : (s : ℕ) → s ≡ assembled (above s) (component size i s) (below s)
    unfolding component above below assembled
    disassemble s = sym (rw (div-add-mod' (s / tuples size i) (size i)) (div-add-mod' s (tuples size i)))

    replaced-assembled : (n s : ℕ) → replaced size i n s ≡ assembled (above s) n (below s)
    unfolding replaced assembled
    replaced-assembled n s =
        let a : ℕ = above s * size i in
        let e : s ≡ (a + component size i s) * tuples size i + below s = disassemble s in
        omega (arith, e, add-mul a (component size i s) (tuples size i), add-mul a n (tuples size i))

    assembled-shift : (hi n lo : ℕ) → lo < tuples size i → assembled hi n lo / tuples size i ≡ hi * size i + n
    unfolding assembled
    assembled-shift hi n lo l = row-div (hi * size i + n) (tuples size i) lo l

    -- the component itself
    pub component-replaced : (n s : ℕ) → n < size i → component size i (replaced size i n s) ≡ n
    unfolding component
    component-replaced n s l =
        rw (replaced-assembled n s, assembled-shift (above s) n (below s) (below-lt s)) (row-mod (above s) (size i) n l)

    -- what stands above stays
    above-replaced : (n s : ℕ) → n < size i → replaced size i n s / tuples size (suc i) ≡ s / tuples size (suc i)
    unfolding tuples above
    above-replaced n s l =
        sym (div-div-eq-div-mul (replaced size i n s) (tuples size i) (size i)) ∙
        rw (replaced-assembled n s, assembled-shift (above s) n (below s) (below-lt s)) (row-div (above s) (size i) n l) ∙
        div-div-eq-div-mul s (tuples size i) (size i)

    pub replaced-below : (n s k : ℕ) → n < size i → i < k → s < tuples size k → replaced size i n s < tuples size k
    replaced-below n s k l lk ls =
        let (c, e) = tuples-more i k lk in
        let z : 0 < tuples size (suc i) = unfold tuples in (mul-pos positive some) in
        rw e ((div-lt_iff_lt-mul {k = tuples size (suc i)} {x = replaced size i n s} {y = c} z).0
        (rw (above-replaced n s l) ((div-lt_iff_lt-mul {k = tuples size (suc i)} {x = s} {y = c} z).1 (rw e at ls))))

    -- a component above
    component-above : (j n s : ℕ) → n < size i → i < j → component size j (replaced size i n s) ≡ component size j s
    unfolding component
    component-above j n s l lj =
        let (c, e) = tuples-from i j lj in
        rw (e, ← div-div-eq-div-mul (replaced size i n s) (tuples size (suc i)) c, ← div-div-eq-div-mul s (tuples size (suc i)) c, above-replaced n s l)
      where
        tuples-from : (i j : ℕ) → i < j → (c : ℕ) × (tuples size j ≡ tuples size (suc i) * c)
        tuples-from i j l = let (c, e) = tuples-more i j l in (c, e ∙ mul_comm c (tuples size (suc i)))

  -- a component does not read what stands above it
  component-of-rest : (i j q lo : ℕ) → 0 < tuples size j → j < i → component size j (q * tuples size i + lo) ≡ component size j lo
  unfolding component
  component-of-rest i j q lo z l =
      let (c, e) = tuples-more j i l in
      let m : q * tuples size i ≡ q * c * size j * tuples size j =
      unfold tuples in (rw e (sym (mul_assoc q c (tuples size j * size j)) ∙ rw (mul_comm (tuples size j) (size j)) (sym (mul_assoc (q * c) (size j) (tuples size j))))) in
      rw (m, mul-add-div_right {m = tuples size j} z (q * c * size j) lo) (mul-add-mod_self_right (q * c) (size j) (lo / tuples size j))

  module _ (k : ℕ) (some : (i : ℕ) → i < k → 0 < size i) where
    positive : (i : ℕ) → i ≤ k → 0 < tuples size i
    positive i l = tuples-positive i (λ j m. some j (omega arith))

    pub component-same : (i n s : ℕ) → i < k → n < size i → component size i (replaced size i n s) ≡ n
    component-same i n s l = component-replaced i (some i l) (positive i (omega arith)) n s

    pub component-other : (i j n s : ℕ) → i < k → j < k → (i ≡ j → ⊥) → n < size i → component size j (replaced size i n s) ≡ component size j s
    component-other i j n s li lj d l =
        let z : 0 < tuples size i = positive i (omega arith) in
        by_test (ltb i j) (λ q. component-above i (some i li) z j n s l (ltb-true i j q))
        (λ q.
        let m : j < i = omega (arith, ltb-false i j q, d) in
        let rest : (x : ℕ) → component size j (assembled i (some i li) z (above i (some i li) z s) x (below i (some i li) z s)) ≡ component size j (below i (some i li) z s)
        = λ x. unfold assembled in (component-of-rest i j (above i (some i li) z s * size i + x) (below i (some i li) z s) (positive j (omega arith)) m) in
        ap (component size j) (replaced-assembled i (some i li) z n s) ∙ rest n ∙ sym (rest (component size i s)) ∙ sym (ap (component size j) (disassemble i (some i li) z s)))

    pub replaced-lands : (i n s : ℕ) → i < k → n < size i → s < tuples size k → replaced size i n s < tuples size k
    replaced-lands i n s l m ls = replaced-below i (some i l) (positive i (omega arith)) n s k m l ls

  -- tuples with equal components are equal
  pub tuples-equal : (k : ℕ) → ((i : ℕ) → i < k → 0 < size i) → (s r : ℕ) → s < tuples size k → r < tuples size k
      → ((i : ℕ) → i < k → component size i s ≡ component size i r) → s ≡ r
  tuples-equal zero some s r ls lr h = let z : tuples size 0 ≡ 1 = unfold tuples in refl in omega arith
  tuples-equal (suc k) some s r ls lr h =
      joined
      (tuples-equal k (λ i l. some i (omega arith)) (s % tuples size k) (r % tuples size k) (mod-lt s z) (mod-lt r z)
      (λ i l. low s i l ∙ h i (omega arith) ∙ sym (low r i l)))
    where
      z : 0 < tuples size k
      z = tuples-positive k (λ i l. some i (omega arith))

      high : (x : ℕ) → x < tuples size (suc k) → x / tuples size k ≡ component size k x
      high x l = unfold component in (sym (mod-eq_of_lt ((div-lt_iff_lt-mul {k = tuples size k} {x = x} {y = size k} z).1 (rw (mul_comm (size k) (tuples size k)) (unfold tuples in l)))))

      top : s / tuples size k ≡ r / tuples size k
      top = high s ls ∙ h k (omega arith) ∙ sym (high r lr)

      low : (x i : ℕ) → i < k → component size i (x % tuples size k) ≡ component size i x
      low x i l = sym (component-of-rest k i (x / tuples size k) (x % tuples size k) (tuples-positive i (λ j m. some j (omega arith))) l) ∙ ap (component size i) (div-add-mod' x (tuples size k))

      joined : s % tuples size k ≡ r % tuples size k → s ≡ r
      joined e = sym (div-add-mod' s (tuples size k)) ∙ rw (top, e) (div-add-mod' r (tuples size k))
