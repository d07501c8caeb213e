-- Keys and values as two lists: what stands in them, in lists put behind lists, and keys that rise within bounds.
-- ---- an index of two lists, one behind the other
-- an index lies in the first list, or that much past its end in the second
use Rattle.scan.proofs.Basics.{ℕ, ◌+◌, ◌-◌, ◌≤◌, ◌<◌, arith, ◌≡◌, refl, sym, ap, ◌∙◌, ◌⊎◌, inl, inr, ltb, Option, none, some, List, [], ◌++◌, length, get_or, length-append}
use lib.ListN.{get_or-append}
use lib.Seq.{get_or-append-add}
use Rattle.scan.proofs.Tests.{ltb-true, ltb-false, by_test}
use Rattle.encoding.specs.Encoding.{list_of}

pub append_cases {ℓ} : {C : Type ℓ} (xs ys : List ℕ) (i : ℕ) → i < length (xs ++ ys)
    → (i < length xs → get_or (xs ++ ys) i 0 ≡ get_or xs i 0 → C)
    → ((j : ℕ) → i ≡ length xs + j → j < length ys → get_or (xs ++ ys) i 0 ≡ get_or ys j 0 → C) → C
append_cases xs ys i l f g =
    by_test (ltb i (length xs)) (λ e. let h = ltb-true i (length xs) e in f h (get_or-append xs ys 0 i h))
    (λ e.
    let h = ltb-false i (length xs) e in
    let q : i ≡ length xs + (i - length xs) = omega arith in
    g (i - length xs) q (omega (arith, length-append xs ys)) (ap (λ (k : ℕ). get_or (xs ++ ys) k 0) q ∙ get_or-append-add xs ys (i - length xs) 0))

-- ---- keys that rise from low on and stay below high

pub record Between (xs : List ℕ) (low high : ℕ) : Type 0 where
  pub from : (i : ℕ) → i < length xs → low ≤ get_or xs i 0
  pub below : (i : ℕ) → i < length xs → get_or xs i 0 < high
  pub rising : (i j : ℕ) → i < j → j < length xs → get_or xs i 0 < get_or xs j 0

pub between-nil : {low high : ℕ} → Between [] low high
between-nil = record { from = λ i l. absurd (omega arith); below = λ i l. absurd (omega arith); rising = λ i j l m. absurd (omega arith) }

pub between-append : {xs ys : List ℕ} {low middle high : ℕ} → low ≤ middle → middle ≤ high → Between xs low middle → Between ys middle high → Between (xs ++ ys) low high
between-append {xs} {ys} lm mh a b = record {
  from = λ i l. append_cases xs ys i l (λ h e. rw e (a.from i h)) (λ j q h e. rw e (omega (arith, b.from j h)));
  below = λ i l. append_cases xs ys i l (λ h e. rw e (omega (arith, a.below i h))) (λ j q h e. rw e (b.below j h));
  rising = λ i j l m.
      append_cases xs ys j m (λ h e. rw (e, get_or-append xs ys 0 i (omega arith)) (a.rising i j l h))
      (λ x q h e. append_cases xs ys i (omega arith)
      (λ k f. rw (e, f) (omega (arith, a.below i k, b.from x h)))
      (λ y r k f. rw (e, f) (b.rising y x (omega arith) h)));
}

pub between-list : (o : Option ℕ) (low : ℕ) → ((k : ℕ) → o ≡ some k → k ≡ low) → Between (list_of o) low (low + 1)
between-list none low h = between-nil
between-list (some k) low h =
    let e : k ≡ low = h k refl in
    record {
      from = λ i l. let z : i ≡ 0 = omega arith in rw z (omega arith);
      below = λ i l. let z : i ≡ 0 = omega arith in rw z (omega arith);
      rising = λ i j l m. absurd (omega arith);
    }

-- ---- what stands in two lists

-- key k and value v stand at one index
pub record Stands (ks vs : List ℕ) (k v : ℕ) : Type 0 where
  pub index : ℕ
  pub below : index < length ks
  pub key : get_or ks index 0 ≡ k
  pub value : get_or vs index 0 ≡ v

module _ (ks ks' vs vs' : List ℕ) (e : length ks ≡ length vs) {k v : ℕ} where
  pub stands-left : Stands ks vs k v → Stands (ks ++ ks') (vs ++ vs') k v
  stands-left s = record {
    index = s.index;
    below = omega (arith, s.below, length-append ks ks');
    key = get_or-append ks ks' 0 s.index s.below ∙ s.key;
    value = get_or-append vs vs' 0 s.index (omega (arith, s.below)) ∙ s.value;
  }

  pub stands-right : Stands ks' vs' k v → Stands (ks ++ ks') (vs ++ vs') k v
  stands-right s = record {
    index = length ks + s.index;
    below = omega (arith, s.below, length-append ks ks');
    key = get_or-append-add ks ks' s.index 0 ∙ s.key;
    value = ap (λ (n : ℕ). get_or (vs ++ vs') (n + s.index) 0) e ∙ get_or-append-add vs vs' s.index 0 ∙ s.value;
  }

  pub stands-cases : Stands (ks ++ ks') (vs ++ vs') k v → Stands ks vs k v ⊎ Stands ks' vs' k v
  stands-cases s =
      append_cases ks ks' s.index s.below
      (λ h f. inl (record { index = s.index; below = h; key = sym f ∙ s.key; value = sym (get_or-append vs vs' 0 s.index (omega arith)) ∙ s.value }))
      (λ j r h f. inr (record {
        index = j;
        below = h;
        key = sym f ∙ s.key;
        value = sym (get_or-append-add vs vs' j 0) ∙ ap (λ (n : ℕ). get_or (vs ++ vs') n 0) (ap (λ (n : ℕ). n + j) (sym e) ∙ sym r) ∙ s.value;
      }))
