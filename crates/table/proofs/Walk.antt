-- The walk along a run of keys: its turns, and what it stores on any words.
use Rattle.scan.proofs.Basics.{ℕ, zero, suc, ◌+◌, ◌-◌, ◌≤◌, ◌<◌, arith, ◌≡◌, refl, ◌∙◌, ◌⊎◌, inl, inr, ⊎_elim, ◌&&◌, ltb, leb, List, length, get_or, set, replicate, length-set}
use Prim.Native.Nat.{min}
use native.Mathlib.Decide.{ℕ_discrete}
use lib.ListN.{get_or-replicate}
use lib.Seq.{get_or-set_same, get_or-set_other}
use Rattle.std.specs.Bool.{then_some}
use Rattle.std.specs.Prelude.{MatchOption}
use Rattle.scan.proofs.Tests.{ltb-true, ltb-false, lt-ltb, le-ltb, leb-true, le-leb, lt-leb, by_test, and_left, and_right}
use Rattle.table.specs.Table.{key_at}
use Rattle.table.specs.Bisection.{lower_bound}
use Rattle.table.specs.Row.{run_place, walk, run_row}
use Rattle.table.proofs.Bisection.{lower-bound-fits}

-- the place of a key: below the run it is past the row, and from there on it is told where the row has it
module _ (words : List ℕ) (offset first width : ℕ) where
  abbrev key_of : ℕ → ℕ
  key_of = key_at words offset

  abbrev place_of : ℕ → ℕ
  place_of = run_place words offset first width

  pub place-low : (i : ℕ) → key_of i < first → 32 ≤ place_of i
  unfolding run_place
  place-low i l = rw (lt-leb first (key_of i) l) (omega arith)

  pub place-told : (i p m : ℕ) → first ≤ key_of i → p ≡ key_of i - first → m ≡ min width 32
      → MatchOption (then_some (ltb p m) p) (32 ≤ place_of i) (λ q. (q < 32) × (q ≡ place_of i))
  unfolding run_place
  place-told i p m l e w =
      by_test (ltb p m)
      (λ h. let k = ltb-true p m h in rw (h, le-leb first (key_of i) l, ← e, lt-ltb p width (omega arith)) (omega arith, refl))
      (λ h. let k = ltb-false p m h in rw (h, le-leb first (key_of i) l, ← e)
      (by_test (ltb p width) (λ g. let q = ltb-true p width g in rw g (omega arith)) (λ g. rw g (omega arith))))

module _ (words : List ℕ) (offset entries first width : ℕ) where
  abbrev key : ℕ → ℕ
  key = key_at words offset

  abbrev place : ℕ → ℕ
  place = run_place words offset first width

  -- entry i has the key at p of the run
  pub record AtPlace (i p : ℕ) : Type 0 where
    pub entry : i < entries
    pub has : key i ≡ first + p
    pub wide : p < width

  place-some : (i p : ℕ) → i < entries → p ≡ place i → p < 32 → AtPlace i p
  unfolding run_place
  place-some i p k e l = by_test (leb first (key i) && ltb (key i - first) width)
      (λ h. let a : first ≤ key i = leb-true _ _ (and_left (leb first (key i)) _ h) in
      let b : key i - first < width = ltb-true _ _ (and_right (leb first (key i)) _ h) in
      let q : p ≡ key i - first = rw h at e in
      record { entry = k; has = omega arith; wide = omega arith })
      (λ h. absurd (omega (arith, rw h at e)))

  pub place_is : (i p : ℕ) → AtPlace i p → place i ≡ p
  unfolding run_place
  place_is i p a =
      let b = a.has in
      let q : key i - first ≡ p = omega arith in
      rw (le-leb first (key i) (omega arith), q, lt-ltb p width a.wide)

  module _ (told : ℕ → ℕ) where
    abbrev walked : ℕ → ℕ → List ℕ → List ℕ
    walked = walk words offset first width told

    abbrev end_row : List ℕ
    end_row = run_row words offset entries first width told

    -- ---- the turns of the loop

    -- the walk stands at entry i with a row, and will end with the run's
    pub record Walking (i : ℕ) (row : List ℕ) : Type 0 where
      pub fits : i < entries → offset + entries ≤ length words
      pub long : length row ≡ 32
      pub ends : walked (entries - i) i row ≡ end_row

    pub walk-starts : (i : ℕ) → i ≡ lower_bound words offset entries first → Walking i (replicate 32 0)
    walk-starts i e = record {
      fits = λ l. lower-bound-fits words offset entries first (rw e at l);
      long = refl;
      ends = unfold run_row in (rw e);
    }

    pub walk-goes : (i p : ℕ) (row : List ℕ) → Walking i row → i < entries → p ≡ place i → p < 32 → Walking (i + 1) (set row p (told i))
    unfolding walk
    walk-goes i p row w k e l =
        let q : entries - i ≡ suc (entries - (i + 1)) = omega arith in
        record {
          fits = λ m. w.fits k;
          long = length-set row p (told i) ∙ w.long;
          ends = rw (q, ← e, lt-ltb p 32 l) at w.ends;
        }

    -- it ends at a key that is not of the run, or behind the last entry
    pub walk_ends : (i : ℕ) (row : List ℕ) → Walking i row → 32 ≤ place i → row ≡ end_row
    unfolding walk
    walk_ends i row w l = go (entries - i) w.ends
      where
        go : (left : ℕ) → walked left i row ≡ end_row → row ≡ end_row
        go zero h = h
        go (suc left) h = rw (le-ltb (place i) 32 l) at h

    pub walk-over : (i : ℕ) (row : List ℕ) → Walking i row → entries ≤ i → row ≡ end_row
    unfolding walk
    walk-over i row w l = let q : entries - i ≡ 0 = omega arith in rw q at w.ends

    -- ---- any words

    walk-length : (left i : ℕ) (row : List ℕ) → length (walked left i row) ≡ length row
    unfolding walk
    walk-length zero i row = refl
    walk-length (suc left) i row = by_test (ltb (place i) 32)
        (λ h. rw h (walk-length left (i + 1) (set row (place i) (told i)) ∙ length-set row (place i) (told i)))
        (λ h. rw h)

    -- a row has at p what it had, or what an entry tells that has the key
    abbrev Stored : ℕ → ℕ → List ℕ → Type 0
    Stored p before after = (get_or after p 0 ≡ before) ⊎ ((j : ℕ) × AtPlace j p × (get_or after p 0 ≡ told j))

    pub walk_at : (left i p : ℕ) (row : List ℕ) → left ≤ entries - i → length row ≡ 32 → Stored p (get_or row p 0) (walked left i row)
    unfolding walk
    walk_at zero i p row m w = inl refl
    walk_at (suc left) i p row m w = by_test (ltb (place i) 32)
        (λ h. let l : place i < 32 = ltb-true _ _ h in rw h (⊎_elim (λ e. elim (ℕ_discrete p (place i)) [
          | yes q ↦ inr (
            i,
            place-some i p (omega arith) q (omega arith),
            let same : get_or (set row (place i) (told i)) p 0 ≡ told i = rw q (get_or-set_same row (place i) (told i) 0
                (omega arith)) in e ∙ same,
          )
          | no q ↦ inl (e ∙ get_or-set_other row (place i) p (told i) 0 q)
        ]) (λ s. inr s) (walk_at left (i + 1) p (set row (place i) (told i)) (omega arith) (length-set row (place i) (told i) ∙ w))))
        (λ h. rw h (inl refl))

    pub run_length : length end_row ≡ 32
    unfolding run_row
    run_length = walk-length _ _ (replicate 32 0)

    pub run_at : (p : ℕ) → p < 32 → Stored p 0 end_row
    unfolding run_row
    run_at p l =
        let s = lower_bound words offset entries first in
        rw (get_or-replicate {A = ℕ} 32 p 0 0 l) at (walk_at (entries - s) s p (replicate 32 0) (omega arith) refl)

    pub run_past : (p : ℕ) → p < 32 → width ≤ p → get_or end_row p 0 ≡ 0
    run_past p l h = ⊎_elim (λ e. e) (λ (j, a, e). absurd (omega (arith, a.wide))) (run_at p l)
