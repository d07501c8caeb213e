-- Entries that all pass 8 and 9: keys that rise and end below the limit, targets that are nodes, and counts in their range.
use Rattle.scan.proofs.Basics.{ℕ, ◌+◌, ◌-◌, ◌≤◌, ◌<◌, arith, ◌≡◌, Bool, true, false, none, List, get_or}
use native.Mathlib.Decide.{dec_lt}
use Rattle.scan.specs.Scan.{or_else, when, first}
use Rattle.scan.proofs.First.{first-empty}
use Rattle.table.specs.Table.{key_at, Rising}
use Rattle.table.specs.Keys.{key_fails}
use Rattle.table.specs.Bisection.{lower_bound}
use Rattle.table.proofs.Table.{rising}
use Rattle.table.proofs.Keys.{key-passes}
use Rattle.table.proofs.Bisection.{LowerBound, lower-bound}
use Rattle.refusal.specs.Limits.{most_count}
use Rattle.sequential.specs.Words.{node_count, entry_count, entry_key}
use Rattle.sequential.specs.Checks.{ArcValuePasses, ValuePasses}
use Rattle.sequential.specs.Check.{entry_fault}
use Rattle.sequential.specs.Known.{ShapePasses}
use Rattle.sequential.proofs.Words.{value_passes, arc-value-passes}
use Rattle.graph.specs.Readable.{value_test, ValuesLie}

module _ {sheet : List ℕ} (s : ShapePasses sheet) (up : Rising sheet 2 (entry_count sheet)) where
  -- ---- keys

  module _ (limit : ℕ) (last : get_or sheet (1 + entry_count sheet) 0 < limit) where
    greatest : (i : ℕ) → i + 1 ≡ entry_count sheet → key_at sheet 2 i < limit
    unfolding key_at
    greatest i e = let q : 2 + i ≡ 1 + entry_count sheet = omega arith in rw q last

    key-low : (i : ℕ) → i < entry_count sheet → key_at sheet 2 i < limit
    key-low i l =
        let top = entry_count sheet - 1 in
        elim (dec_lt i top) [
          | yes m ↦ omega (arith, rising sheet 2 (entry_count sheet) up i top m (omega arith), greatest top (omega arith))
          | no m ↦ greatest i (omega arith)
        ]

    key_right : (i : ℕ) → i < entry_count sheet → key_fails sheet 2 limit i ≡ false
    key_right i l = (key-passes sheet 2 limit i).1 (record {
      low = key-low i l;
      above = λ h. let q : i - 1 + 1 ≡ i = omega arith in rw q at (up.above (i - 1) (omega arith));
    })

    passes : (fails : ℕ → Bool) → ((i : ℕ) → i < entry_count sheet → fails i ≡ false) → first (entry_fault sheet limit fails) (entry_count sheet) ≡ none
    unfolding entry_fault or_else when
    passes fails h = first-empty _ _ (λ i l. rw (key_right i l, h i l))

  -- ---- values

  module _ (arcs : ℕ) {end : ℕ} (e : end ≡ lower_bound sheet 2 (entry_count sheet) arcs) where
    bound : LowerBound sheet 2 (entry_count sheet) arcs end
    bound = rw e (lower-bound sheet 2 (entry_count sheet) arcs up (omega (arith, s.whole)))

    pub ends-within : end ≤ entry_count sheet
    ends-within = bound.within

    module _ (targets : ValuesLie sheet 0 end 0 (node_count sheet)) where
      target_right : (i : ℕ) → i < entry_count sheet → ArcValuePasses sheet arcs i
      unfolding entry_key
      target_right i l m = elim (dec_lt i end) [ yes k ↦ (targets i (omega arith) k).1 | no k ↦ absurd (omega (arith, bound.above i (omega arith) l, m)) ]

      value-right : ValuesLie sheet end (entry_count sheet) 1 (most_count + 1) → (i : ℕ) → i < entry_count sheet → ValuePasses sheet arcs i
      unfolding entry_key
      value-right counts i l =
          let there : arcs ≤ key_at sheet 2 i → end ≤ i = λ m. elim (dec_lt i end) [ yes k ↦ absurd (omega (arith, bound.below i k, m)) | no k ↦ omega arith ] in
          record { target = target_right i l; some = λ m. (counts i (there m) l).0; most = λ m. omega (arith, (counts i (there m) l).1) }

      module _ (limit : ℕ) (last : get_or sheet (1 + entry_count sheet) 0 < limit) where
        pub arcs-pass : (counts : Bool) → counts ≡ false → first (entry_fault sheet limit (value_test counts sheet arcs)) (entry_count sheet) ≡ none
        arcs-pass counts e = rw e (passes limit last _ (λ i l. (arc-value-passes sheet arcs i).1 (target_right i l)))

        pub all_pass : (counts : Bool) → counts ≡ true → ValuesLie sheet end (entry_count sheet) 1 (most_count + 1)
            → first (entry_fault sheet limit (value_test counts sheet arcs)) (entry_count sheet) ≡ none
        all_pass counts e v = rw e (passes limit last _ (λ i l. (value_passes sheet arcs i).1 (value-right v i l)))
