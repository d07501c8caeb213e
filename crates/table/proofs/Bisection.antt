-- Bisection, turn by turn for any test; if the test passes below some index and not from there on, bisection finds that index.
-- So the look-up among rising keys is the entry with the key.
-- ---- the turns of the loop
use Rattle.std.specs.Prelude.{None, Some}
use Rattle.scan.proofs.Basics.{ℕ, zero, suc, ◌+◌, ◌-◌, ◌≤◌, ◌<◌, arith, ◌≡◌, refl, sym, ap, ◌∙◌, Bool, true, false, cond, ◌&&◌, ltb, leb, eqb, none, some, List, length}
use native.Mathlib.Decide.{dec_lt}
use Rattle.scan.proofs.Tests.{ltb-true, ltb-false, lt-ltb, le-ltb, leb-true, le-leb, lt-leb, eqb-true, eq-eqb, ne_eqb, by_test, true-false, not-true→false, and_left, and_right, and_both}
use Rattle.table.specs.Table.{key_at, entry_of, Rising}
use Rattle.table.specs.Bisection.{middle, bisect, key_below, lower_bound, look_up, found_of}
use Rattle.table.proofs.Table.{rising, entry_at, entry_absent}

module _ (f : ℕ → Bool) where
  pub bisect-met : (n low high : ℕ) → high ≤ low → bisect f n low high ≡ low
  unfolding bisect
  bisect-met zero low high h = refl
  bisect-met (suc n) low high h = rw (le-ltb low high h)

  bisect-up : (n low high : ℕ) → low < high → f (middle low high) ≡ true → bisect f (suc n) low high ≡ bisect f n (middle low high + 1) high
  unfolding bisect
  bisect-up n low high l h = rw (lt-ltb low high l, h)

  bisect-down : (n low high : ℕ) → low < high → f (middle low high) ≡ false → bisect f (suc n) low high ≡ bisect f n low (middle low high)
  unfolding bisect
  bisect-down n low high l h = rw (lt-ltb low high l, h)

  -- more turns than needed change nothing
  bisect-turns : (n m low high : ℕ) → high - low ≤ n → high - low ≤ m → bisect f n low high ≡ bisect f m low high
  bisect-turns zero m low high a b = bisect-met zero low high (omega arith) ∙ sym (bisect-met m low high (omega arith))
  bisect-turns (suc n) zero low high a b = bisect-met (suc n) low high (omega arith) ∙ sym (bisect-met zero low high (omega arith))
  bisect-turns (suc n) (suc m) low high a b =
      elim (dec_lt low high) [
        | yes l ↦ by_test (f (middle low high))
            (λ h. bisect-up n low high l h ∙ bisect-turns n m (middle low high + 1) high (omega arith) (omega arith) ∙ sym (bisect-up m low high l h))
            (λ h. bisect-down n low high l h ∙ bisect-turns n m low (middle low high) (omega arith) (omega arith) ∙ sym (bisect-down m low high l h))
        | no l ↦ bisect-met (suc n) low high (omega arith) ∙ sym (bisect-met (suc m) low high (omega arith))
      ]

  pub turn_up : (n low high : ℕ) → low < high → high - low ≤ n → f (middle low high) ≡ true → bisect f n low high ≡ bisect f n (middle low high + 1) high
  turn_up n low high l b h = bisect-turns n (suc n) low high b (omega arith) ∙ bisect-up n low high l h

  pub turn-down : (n low high : ℕ) → low < high → high - low ≤ n → f (middle low high) ≡ false → bisect f n low high ≡ bisect f n low (middle low high)
  turn-down n low high l b h = bisect-turns n (suc n) low high b (omega arith) ∙ bisect-down n low high l h

-- ---- the place at which a test turns

-- f passes below r and fails from r to n
pub record Turns (f : ℕ → Bool) (n r : ℕ) : Type 0 where
  pub within : r ≤ n
  pub below : (i : ℕ) → i < r → f i ≡ true
  pub above : (i : ℕ) → r ≤ i → i < n → f i ≡ false

module _ (f : ℕ → Bool) (n : ℕ) (falling : (i j : ℕ) → i < j → j < n → f j ≡ true → f i ≡ true) where
  bisect-turns-at : (k low high : ℕ) → high - low ≤ k → low ≤ high → high ≤ n → ((i : ℕ) → i < low → f i ≡ true)
      → ((i : ℕ) → high ≤ i → i < n → f i ≡ false) → Turns f n (bisect f k low high)
  bisect-turns-at zero low high d a b under over = rw (bisect-met f zero low high (omega arith)) (record {
    within = omega arith;
    below = under;
    above = λ i h l. over i (omega arith) l;
  })
  bisect-turns-at (suc k) low high d a b under over =
      elim (dec_lt low high) [
        | yes l ↦ by_test (f (middle low high))
            (λ h. rw (bisect-up f k low high l h) (bisect-turns-at k (middle low high + 1) high (omega arith) (omega arith) b
            (λ i m. elim (dec_lt i (middle low high)) [ yes p ↦ falling i _ p (omega arith) h | no p ↦ let e : i ≡ middle low high = omega arith in rw e h ]) over))
            (λ h. rw (bisect-down f k low high l h) (bisect-turns-at k low (middle low high) (omega arith) (omega arith) (omega arith) under
            (λ i m p. not-true→false (f i) (λ t. true-false _ (elim (dec_lt (middle low high) i) [
              | yes q ↦ falling _ i q p t
              | no q ↦ let e : i ≡ middle low high = omega arith in rw e at t
            ]) h))))
        | no l ↦ rw (bisect-met f (suc k) low high (omega arith)) (record { within = omega arith; below = under; above = λ i h p. over i (omega arith) p })
      ]

  pub bisect-finds : Turns f n (bisect f n 0 n)
  bisect-finds = bisect-turns-at n 0 n (omega arith) (omega arith) (omega arith) (λ i l. absurd (omega arith)) (λ i h l. absurd (omega arith))

-- ---- the look-up

found-cond : (b : Bool) (i : ℕ) → cond b (Some i) None ≡ found_of (cond b (some i) none)
found-cond true i = refl
found-cond false i = refl

module _ (words : List ℕ) (offset entries k : ℕ) where
  pub lower-bound-fits : lower_bound words offset entries k < entries → offset + entries ≤ length words
  unfolding lower_bound
  lower-bound-fits l =
      by_test (leb (offset + entries) (length words)) (λ h. leb-true (offset + entries) (length words) h) (λ h. absurd (omega (arith, rw h at l)))

  pub lower-bound-bisects : offset + entries ≤ length words → lower_bound words offset entries k ≡ bisect (key_below words offset k) entries 0 entries
  unfolding lower_bound
  lower-bound-bisects h = rw (le-leb (offset + entries) (length words) h)

  pub lower-bound-unfit : length words < offset + entries → entries ≡ lower_bound words offset entries k
  unfolding lower_bound
  lower-bound-unfit h = rw (lt-leb (offset + entries) (length words) h)

  pub look-up-hit : (i : ℕ) → i ≡ lower_bound words offset entries k → i < entries → key_at words offset i ≡ k → Some i ≡ look_up words offset entries k
  unfolding look_up
  look-up-hit i e l h = rw (← e, lt-ltb i entries l, eq-eqb (key_at words offset i) k h)

  pub look-up-miss : (i : ℕ) → i ≡ lower_bound words offset entries k → (i < entries → key_at words offset i ≡ k → ⊥) → None ≡ look_up words offset entries k
  unfolding look_up
  look-up-miss i e h = rw (← e) (by_test (ltb i entries) (λ q. rw (q, ne_eqb (key_at words offset i) k (h (ltb-true i entries q)))) (λ q. rw q))

  -- the entry that is found is one of the entries, whatever the keys
  pub look-up-within : (i : ℕ) → look_up words offset entries k ≡ Some i → i < entries
  unfolding look_up
  look-up-within i e = go (ltb r entries) refl (eqb (key_at words offset r) k) e
    where
      r : ℕ
      r = lower_bound words offset entries k

      go : (a : Bool) → ltb r entries ≡ a → (b : Bool) → cond (a && b) (Some r) None ≡ Some i → i < entries
      go true p true h = let q : r ≡ i = cc in omega (arith, ltb-true r entries p)
      go true p false h = absurd (let z : ◌≡◌ {A = ℕ} 0 1 = cc in omega arith)
      go false p b h = absurd (let z : ◌≡◌ {A = ℕ} 0 1 = cc in omega arith)

  -- below the place the keys are below the one asked for, from there on they are not
  pub record LowerBound (r : ℕ) : Type 0 where
    pub within : r ≤ entries
    pub below : (i : ℕ) → i < r → key_at words offset i < k
    pub above : (i : ℕ) → r ≤ i → i < entries → k ≤ key_at words offset i

  -- where keys rise, only the entry at that place can have the key
  pub lower-bound-entry : Rising words offset entries → (r : ℕ) → LowerBound r
      → entry_of words offset entries k ≡ cond (ltb r entries && eqb (key_at words offset r) k) (some r) none
  lower-bound-entry up r b =
      by_test (ltb r entries && eqb (key_at words offset r) k)
      (λ h. rw h (entry_at words offset entries up r k (ltb-true r entries (and_left (ltb r entries) _ h)) (eqb-true _ k (and_right (ltb r entries) _ h))))
      (λ h. let away : r < entries → key_at words offset r ≡ k → ⊥ = λ l e. true-false _ (and_both _ _ (lt-ltb r entries l) (eq-eqb _ k e)) h in
      rw h (entry_absent words offset entries k (λ i l e. elim (dec_lt i r) [
        | yes m ↦ let a = b.below i m in omega arith
        | no m ↦ elim (dec_lt r i) [
          | yes m' ↦ let a = rising words offset entries up r i m' l in let c = b.above r (omega arith) (omega arith) in omega arith
          | no m' ↦ let q : i ≡ r = omega arith in away (omega arith) (rw q at e)
        ]
      ])))

  module _ (up : Rising words offset entries) (fits : offset + entries ≤ length words) where
    pub lower-bound : LowerBound (lower_bound words offset entries k)
    unfolding key_below
    lower-bound =
        let t = bisect-finds (key_below words offset k) entries
        (λ i j l m h. lt-ltb (key_at words offset i) k (let a = rising words offset entries up i j l m in omega (arith, ltb-true (key_at words offset j) k h))) in
        rw (lower-bound-bisects fits) (record {
          within = t.within;
          below = λ i l. ltb-true (key_at words offset i) k (t.below i l);
          above = λ i l m. ltb-false (key_at words offset i) k (t.above i l m);
        })

    -- the look-up is the entry with the key
    pub look_up_lem : look_up words offset entries k ≡ found_of (entry_of words offset entries k)
    unfolding look_up
    look_up_lem =
        let r = lower_bound words offset entries k in
        found-cond (ltb r entries && eqb (key_at words offset r) k) r ∙ ap found_of (sym (lower-bound-entry up r lower-bound))
