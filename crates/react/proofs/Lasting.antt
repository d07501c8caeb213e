-- The paths of the check of durations: its shape, one transition, and the loop over them.
use Rattle.scan.proofs.Basics.{ℕ, ◌+◌, ◌*◌, ◌≤◌, ◌<◌, ◌≡◌, refl, Bool, true, false, eqb, ltb, List, length, get_or, ◌&&◌}
use Rattle.scan.proofs.Tests.{lt-ltb, le-ltb, ne_eqb, eq-eqb}
use Rattle.reaction.specs.Words.{duration_count, early, late, most_duration}
use Rattle.reaction.specs.Tests.{shape_passes, duration_fails}
use Rattle.react.specs.declared.case.Case.TheVariants.{Best, Worst}
use Rattle.react.specs.Cases.{duration_of}

module _ (words : List ℕ) (k : ℕ) where
  pub shape-no : (length words ≡ 1 + 2 * k → ⊥) → false ≡ shape_passes words k
  unfolding shape_passes
  shape-no h = rw (ne_eqb (length words) (1 + 2 * k) h) (both (eqb (duration_count words) k))
    where
      both : (b : Bool) → false ≡ (b && false)
      both true = refl
      both false = refl

  pub shape-yes : length words ≡ 1 + 2 * k → eqb (get_or words 0 0) k ≡ shape_passes words k
  unfolding shape_passes duration_count
  shape-yes h = rw (eq-eqb (length words) (1 + 2 * k) h) (both (eqb (get_or words 0 0) k))
    where
      both : (b : Bool) → b ≡ (b && true)
      both true = refl
      both false = refl

module _ (words : List ℕ) (t : ℕ) {a b : ℕ} (p : a ≡ duration_of words Worst t) (q : b ≡ duration_of words Best t) where
  pub fails-order : a < b → true ≡ duration_fails words t
  unfolding duration_fails duration_of
  fails-order h = let z : late words t < early words t = rw (← p, ← q) h in rw (lt-ltb (late words t) (early words t) z)

  pub fails-long : b ≤ a → ltb most_duration a ≡ duration_fails words t
  unfolding duration_fails duration_of
  fails-long h = let z : early words t ≤ late words t = rw (← p, ← q) h in rw (p, le-ltb (late words t) (early words t) z)

-- ---- the loop over the transitions below t

module _ (words : List ℕ) (k : ℕ) where
  pub record Passing (t : ℕ) : Type 0 where
    pub shape : shape_passes words k ≡ true
    pub below : (u : ℕ) → u < t → duration_fails words u ≡ false
