-- A sheet's entries: a key's value is found where the keys rise, and two sheets with the same entries have the same words.
-- an entry of the sheet has the key k and the value v
use Rattle.scan.proofs.Basics.{ℕ, zero, suc, ◌+◌, ◌-◌, ◌*◌, ◌≤◌, ◌<◌, arith, ◌≡◌, refl, sym, ap, ◌∙◌, ltb, none, some, option_map, List, length, get_or}
use lib.Seq.{ext_get_or}
use Rattle.scan.proofs.Tests.{ltb-true, ltb-false, by_test}
use Rattle.table.specs.Table.{key_at, value_at, Rising}
use Rattle.table.proofs.Table.{rising, entry-unique, entry_at, entry_absent}
use Rattle.sequential.specs.Words.{node_count, entry_count, entry_key, entry_value, entry_with_key}

pub record Entered (sheet : List ℕ) (k v : ℕ) : Type 0 where
  pub index : ℕ
  pub entry : index < entry_count sheet
  pub key : entry_key sheet index ≡ k
  pub value : entry_value sheet index ≡ v

-- ---- looking up a key

module _ (sheet : List ℕ) (r : Rising sheet 2 (entry_count sheet)) where
  pub look-up-entered : (k v : ℕ) → Entered sheet k v → option_map (entry_value sheet) (entry_with_key sheet k) ≡ some v
  unfolding entry_with_key
  look-up-entered k v e = rw (entry_at sheet 2 (entry_count sheet) r e.index k e.entry (unfold entry_key in e.key)) (ap some e.value)

  pub look-up-absent : (k : ℕ) → ((v : ℕ) → Entered sheet k v → ⊥) → entry_with_key sheet k ≡ none
  unfolding entry_with_key
  look-up-absent k h =
      entry_absent sheet 2 (entry_count sheet) k
      (λ i l e. h (entry_value sheet i) (record { index = i; entry = l; key = unfold entry_key in e; value = refl }))

  -- ---- the keys rise

  rises : (i j : ℕ) → j < entry_count sheet → i < j → entry_key sheet i < entry_key sheet j
  unfolding entry_key
  rises i j l h = rising sheet 2 (entry_count sheet) r i j h l

  rises-weakly : (i j : ℕ) → j < entry_count sheet → i ≤ j → entry_key sheet i ≤ entry_key sheet j
  rises-weakly i j l h =
      by_test (ltb i j) (λ e. let z = rises i j l (ltb-true i j e) in omega arith) (λ e. let z : i ≡ j = omega (arith, ltb-false i j e) in rw z (omega arith))

-- ---- two sheets with the same entries

-- where every entry of x is one of y's
module _ (x y : List ℕ) (rx : Rising x 2 (entry_count x)) (ry : Rising y 2 (entry_count y)) (part : (k v : ℕ) → Entered x k v → Entered y k v) where
  at : (i : ℕ) → i < entry_count x → Entered y (entry_key x i) (entry_value x i)
  at i l = part (entry_key x i) (entry_value x i) (record { index = i; entry = l; key = refl; value = refl })

  at-rises : (i j : ℕ) (l : i < entry_count x) (m : j < entry_count x) → i < j → (at i l).index < (at j m).index
  at-rises i j l m h =
      by_test (ltb (at i l).index (at j m).index) (λ e. ltb-true _ _ e)
      (λ e. absurd (omega (
        arith,
        rises x rx i j m h,
        rises-weakly y ry (at j m).index (at i l).index (at i l).entry (ltb-false _ _ e),
        (at i l).key,
        (at j m).key,
      )))

  -- so that no entry of x stands at a lower index in y
  at-climbs : (i : ℕ) (l : i < entry_count x) → i ≤ (at i l).index
  at-climbs zero l = omega arith
  at-climbs (suc i) l = omega (arith, at-climbs i (omega arith), at-rises i (suc i) (omega arith) l (omega arith))

  index-low : (i : ℕ) → i < entry_count x → i < entry_count y
  index-low i l = omega (arith, at-climbs i l, (at i l).entry)

  key-low : (i : ℕ) → i < entry_count x → entry_key y i ≤ entry_key x i
  key-low i l = omega (arith, rises-weakly y ry i (at i l).index (at i l).entry (at-climbs i l), (at i l).key)

  -- where the keys at an index are equal, so are the values
  value-at : (i : ℕ) → i < entry_count x → entry_key x i ≡ entry_key y i → entry_value x i ≡ entry_value y i
  value-at i l e = sym (at i l).value ∙ ap (entry_value y) (entry-unique y 2 (entry_count y) ry (at i l).index i (at i l).entry (index-low i l) (unfold entry_key in ((at i l).key ∙ e)))

module _ (x y : List ℕ) (rx : Rising x 2 (entry_count x)) (ry : Rising y 2 (entry_count y))
    (there : (k v : ℕ) → Entered x k v → Entered y k v) (back : (k v : ℕ) → Entered y k v → Entered x k v) where
  same_count : entry_count x ≡ entry_count y
  same_count =
      by_test (ltb (entry_count x) (entry_count y)) (λ e. absurd (omega (arith, index-low y x ry rx back (entry_count x) (ltb-true _ _ e))))
      (λ e. by_test (ltb (entry_count y) (entry_count x)) (λ f. absurd (omega (arith, index-low x y rx ry there (entry_count y) (ltb-true _ _ f))))
      (λ f. omega (arith, ltb-false (entry_count x) (entry_count y) e, ltb-false (entry_count y) (entry_count x) f)))

  same_key : (i : ℕ) → i < entry_count x → entry_key x i ≡ entry_key y i
  same_key i l = omega (arith, key-low x y rx ry there i l, key-low y x ry rx back i (omega (arith, same_count)))

  same-value : (i : ℕ) → i < entry_count x → entry_value x i ≡ entry_value y i
  same-value i l = value-at x y rx ry there i l (same_key i l)

  -- the words are V, K, the keys and the values
  pub same-words : node_count x ≡ node_count y → length x ≡ 2 + 2 * entry_count x → length y ≡ 2 + 2 * entry_count y → x ≡ y
  same-words v lx ly = ext_get_or 0 x y (omega (arith, same_count)) word
    where
      at_key : (i : ℕ) → i < entry_count x → get_or x (2 + i) 0 ≡ get_or y (2 + i) 0
      at_key i l = unfold entry_key key_at in (same_key i l)

      at_value : (i : ℕ) → i < entry_count x → get_or x (2 + entry_count x + i) 0 ≡ get_or y (2 + entry_count x + i) 0
      at_value i l =
          let e : get_or x (2 + entry_count x + i) 0 ≡ get_or y (2 + entry_count y + i) 0 = unfold entry_value value_at in (same-value i l) in
          e ∙ ap (λ (k : ℕ). get_or y (2 + k + i) 0) (sym same_count)

      word : (i : ℕ) → i < length x → get_or x i 0 ≡ get_or y i 0
      word zero l = v
      word (suc zero) l = same_count
      word (suc (suc i)) l =
          by_test (ltb i (entry_count x))
          (λ e. let q : 2 + i ≡ suc (suc i) = omega arith in rw q at (at_key i (ltb-true _ _ e)))
          (λ e.
          let h = ltb-false i (entry_count x) e in
          let q : 2 + entry_count x + (i - entry_count x) ≡ suc (suc i) = omega arith in
          rw q at (at_value (i - entry_count x) (omega arith)))
