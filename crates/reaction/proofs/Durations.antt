-- The tests of durations decide their clauses: when 32 is answered.
use Rattle.refusal.specs.declared.Reason.TheVariants.{BadDuration}
use Rattle.scan.proofs.Basics.{ℕ, ◌<◌, arith, ◌≡◌, refl, inl, inr, ◌↔◌, true, false, eqb, ltb, none, some, List}
use Rattle.scan.proofs.Tests.{ltb-false, le-ltb, eqb-true, eq-eqb, and_left, and_right, and_both, or-none-left, or-none-right, decides_not, true-false}
use Rattle.refusal.specs.Refusal.{refusal}
use Rattle.refusal.specs.declared.Position.TheVariants.{Nothing, Entry}
use Rattle.refusal.proofs.Checks.{Decides, Decided, Lawful, Tells, finding-tells}
use Rattle.reaction.specs.Words.{duration_count, early, late, most_duration, ShapePasses, DurationPasses}
use Rattle.reaction.specs.Checks.{duration_checks}
use Rattle.reaction.specs.Tests.{shape_passes, duration_fails, duration_tests, durations_fault}

module _ (words : List ℕ) where
  pub shape↔ : (k : ℕ) → (shape_passes words k ≡ true) ↔ ShapePasses words k
  unfolding shape_passes
  shape↔ k = (
    λ e. record { same = eqb-true _ _ (and_left _ _ e); whole = eqb-true _ _ (and_right (eqb (duration_count words) k) _ e) },
    λ h. and_both _ _ (eq-eqb _ _ h.same) (eq-eqb _ _ h.whole),
  )

  pub passes↔ : (t : ℕ) → (duration_fails words t ≡ false) ↔ DurationPasses words t
  unfolding duration_fails
  passes↔ t = (
    λ e.
        let a = ltb-false (late words t) (early words t) (or-none-left _ _ e) in
        let b = ltb-false most_duration (late words t) (or-none-right (ltb (late words t) (early words t)) _ e) in
        record { early_fits = omega arith; late_fits = omega arith; ordered = omega arith },
    λ h. rw (le-ltb (late words t) (early words t) h.ordered, le-ltb most_duration (late words t) h.late_fits),
  )

  module _ (k : ℕ) where
    pub durations-lawful : Lawful Unit (duration_checks words k) (duration_tests words k)
    unfolding Lawful Decided Decides
    durations-lawful = (λ h. decides_not _ (shape↔ k).0 (shape↔ k).1, (λ h t l. (passes↔ t, λ x. tt), tt))

    pub durations-tell : Tells (durations_fault words k) (duration_checks words k)
    unfolding durations_fault
    durations-tell = finding-tells Unit (duration_checks words k) (duration_tests words k) durations-lawful tt

    -- ---- the paths of the code

    pub shape-refused : shape_passes words k ≡ false → durations_fault words k ≡ some (refusal BadDuration Nothing)
    shape-refused e = (durations-tell.fails _).1 (inl (λ p. true-false (shape_passes words k) ((shape↔ k).1 p) e, refl))

    module _ (e : shape_passes words k ≡ true) where
      pub duration-refused : (t : ℕ) → t < k → ((u : ℕ) → u < t → duration_fails words u ≡ false) → duration_fails words t ≡ true
          → durations_fault words k ≡ some (refusal BadDuration (Entry t))
      duration-refused t l b f = (durations-tell.fails _).1 (inr (
        (shape↔ k).0 e,
        inl (record {
          index = t;
          within = l;
          below = λ u m. ((passes↔ u).0 (b u m), tt);
          there = inl (λ p. true-false (duration_fails words t) f ((passes↔ t).1 p), refl);
        }),
      ))

      pub durations-accepted : ((u : ℕ) → u < k → duration_fails words u ≡ false) → durations_fault words k ≡ none
      durations-accepted b = durations-tell.passes.1 ((shape↔ k).0 e, (λ u m. ((passes↔ u).0 (b u m), tt), tt))
