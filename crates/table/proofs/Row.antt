-- The rows of a run of keys: on any words each cell is 0 or has an entry with its key; if the keys rise, the walk meets every entry of the run.
use Rattle.scan.proofs.Basics.{ℕ, zero, suc, ◌+◌, ◌-◌, ◌*◌, ◌≤◌, ◌<◌, arith, ◌≡◌, refl, sym, ap, ◌∙◌, ⊎_elim, cond, ltb, leb, Option, none, some, List, length, get_or, set, replicate, length-set}
use native.Mathlib.Decide.{ℕ_discrete, dec_lt}
use lib.ListN.{get_or-replicate}
use lib.Seq.{get_or-set_same}
use Rattle.scan.proofs.Tests.{ltb-true, ltb-false, lt-ltb, le-leb, lt-leb, by_test}
use Rattle.scan.specs.Scan.{tabulate, found_or}
use Rattle.scan.proofs.Tabulate.{tabulate-is}
use Rattle.table.specs.Table.{key_at, value_at, entry_of, Rising}
use Rattle.table.specs.Bisection.{lower_bound}
use Rattle.table.specs.Row.{section_cell, entry_code, walk, run_row, entry_row, value_row}
use Rattle.table.proofs.Table.{rising, entry-unique, entry-some, entry-none}
use Rattle.table.proofs.Bisection.{lower-bound}
use Rattle.table.proofs.Walk.{AtPlace, place_is, walk_at, run_length, run_at, run_past}

-- ---- keys that rise

module _ (words : List ℕ) (offset entries first width : ℕ) (told : ℕ → ℕ) (up : Rising words offset entries) where
  abbrev key : ℕ → ℕ
  key = key_at words offset

  abbrev HasPlace : ℕ → ℕ → Type 0
  HasPlace = AtPlace words offset entries first width

  abbrev walked : ℕ → ℕ → List ℕ → List ℕ
  walked = walk words offset first width told

  abbrev end_row : List ℕ
  end_row = run_row words offset entries first width told

  -- the walk meets each entry of the run that is still to come
  walk_meets : (left i j p : ℕ) (row : List ℕ) → left ≤ entries - i → length row ≡ 32 → p < 32 → HasPlace j p → i ≤ j → j < i + left → first ≤ key i
      → get_or (walked left i row) p 0 ≡ told j
  unfolding walk
  walk_meets zero i j p row m w l a h k b = absurd (omega arith)
  walk_meets (suc left) i j p row m w l a h k b = elim (ℕ_discrete i j) [
    | yes q ↦ rw (q, place_is words offset entries first width j p a, lt-ltb p 32 l) (⊎_elim (λ e. e ∙ get_or-set_same row p (told j) 0 (omega arith))
        (λ (u, c, e). e ∙ ap told (entry-unique words offset entries up u j c.entry a.entry (c.has ∙ sym a.has)))
        (walk_at words offset entries first width told left (j + 1) p (set row p (told j)) (omega arith) (length-set row p (told j) ∙ w)))
    | no q ↦
        let r = rising words offset entries up i j (omega arith) a.entry in
        let s : HasPlace i (key i - first) = record { entry = omega arith; has = omega arith; wide = omega (arith, a.wide, a.has) } in
        rw (place_is words offset entries first width i _ s, lt-ltb (key i - first) 32 (omega (arith, a.has)))
        (walk_meets left (i + 1) j p _ (omega arith) (length-set row _ _ ∙ w) l a (omega arith) (omega arith)
        (omega (arith, rising words offset entries up i (i + 1) (omega arith) (omega (arith, a.entry)))))
  ]

  module _ (fits : offset + entries ≤ length words) where
    -- below the width a row has what the key's entry tells, 0 where there is none, and past it 0
    pub run-right : (p : ℕ) → p < 32 → get_or end_row p 0 ≡ cond (ltb p width) (found_or 0 told (entry_of words offset entries (first + p))) 0
    unfolding run_row
    run-right p l = by_test (ltb p width)
        (λ h. rw h (go (ltb-true _ _ h) (entry_of words offset entries (first + p)) refl))
        (λ h. rw h (run_past words offset entries first width told p l (ltb-false p width h)))
      where
        start : ℕ
        start = lower_bound words offset entries first

        go : p < width → (o : Option ℕ) → entry_of words offset entries (first + p) ≡ o → get_or end_row p 0 ≡ found_or 0 told o
        go m none e = ⊎_elim (λ z. z) (λ (j, a, z). absurd (entry-none words offset entries (first + p) e j a.entry a.has)) (run_at words offset entries first width told p l)
        go m (some j) e =
            let (k, h) = entry-some words offset entries (first + p) j e in
            let b = lower-bound words offset entries first up fits in
            let from : start ≤ j = elim (dec_lt j start) [ yes q ↦ absurd (let z = b.below j q in omega arith) | no q ↦ omega arith ] in
            walk_meets (entries - start) start j p (replicate 32 0) (omega arith) refl l (record { entry = k; has = h; wide = m }) from (omega arith)
            (b.above start (omega arith) (omega arith))

    pub run_is : (f : ℕ → ℕ) → ((p : ℕ) → p < 32 → f p ≡ cond (ltb p width) (found_or 0 told (entry_of words offset entries (first + p))) 0) → end_row ≡ tabulate f 32
    run_is f h = tabulate-is f 0 32 end_row (run_length words offset entries first width told) (λ p l. run-right p l ∙ sym (h p l))

-- ---- the two rows

module _ (words : List ℕ) (offset entries first width : ℕ) where
  pub value-row-unfit : length words < offset + 2 * entries → replicate 32 0 ≡ value_row words offset entries first width
  unfolding value_row
  value-row-unfit h = rw (lt-leb (offset + 2 * entries) (length words) h)

  pub value-row-fits : offset + 2 * entries ≤ length words → run_row words offset entries first width (value_at words offset entries) ≡ value_row words offset entries first width
  unfolding value_row
  value-row-fits h = rw (le-leb (offset + 2 * entries) (length words) h)

  -- ---- any words

  -- past the width a row is 0
  pub row-past : (p : ℕ) → p < 32 → width ≤ p → get_or (entry_row words offset entries first width) p 0 ≡ 0
  unfolding entry_row
  row-past p l h = run_past words offset entries first width section_cell p l h

  pub value_past : (p : ℕ) → p < 32 → width ≤ p → get_or (value_row words offset entries first width) p 0 ≡ 0
  unfolding value_row
  value_past p l h = by_test (leb (offset + 2 * entries) (length words))
      (λ e. rw e (run_past words offset entries first width (value_at words offset entries) p l h)) (λ e. rw e (get_or-replicate 32 p 0 0 l))

  -- ---- keys that rise

  module _ (up : Rising words offset entries) where
    -- below the width a row has the entry with the key, or its value
    pub row-entry : offset + entries ≤ length words → (p : ℕ) → p < 32 → p < width → get_or (entry_row words offset entries first width) p 0 ≡ entry_code (entry_of words offset entries (first + p))
    unfolding entry_row
    row-entry fits p l h = run-right words offset entries first width section_cell up fits p l ∙ rw (lt-ltb p width h)

    pub value-at : offset + 2 * entries ≤ length words → (p : ℕ) → p < 32 → p < width
        → get_or (value_row words offset entries first width) p 0 ≡ found_or 0 (value_at words offset entries) (entry_of words offset entries (first + p))
    value-at fits p l h = rw (← value-row-fits fits) (run-right words offset entries first width (value_at words offset entries) up (omega arith) p l ∙ rw (lt-ltb p width h))

    -- as a table
    pub entry-row-is : offset + entries ≤ length words → (f : ℕ → ℕ)
        → ((p : ℕ) → p < 32 → f p ≡ cond (ltb p width) (entry_code (entry_of words offset entries (first + p))) 0) → entry_row words offset entries first width ≡ tabulate f 32
    unfolding entry_row
    entry-row-is fits = run_is words offset entries first width section_cell up fits

    pub value-row-is : offset + 2 * entries ≤ length words → (f : ℕ → ℕ)
        → ((p : ℕ) → p < 32 → f p ≡ cond (ltb p width) (found_or 0 (value_at words offset entries) (entry_of words offset entries (first + p))) 0)
        → value_row words offset entries first width ≡ tabulate f 32
    value-row-is fits f h = sym (value-row-fits fits) ∙ run_is words offset entries first width (value_at words offset entries) up (omega arith) f h
