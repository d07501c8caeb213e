-- Checks in an order, as statements: all pass, or one is the first to fail (§7.54).
use Rattle.std.specs.Prelude.{ℕ, ◌<◌, ◌≡◌, ◌⊎◌, List, [], ◌∷◌}
use Rattle.refusal.specs.Refusal.{refusal}
use Rattle.refusal.specs.declared.Position.{Position}
use Rattle.refusal.specs.declared.Position.TheVariants.{Nothing}
use Rattle.refusal.specs.declared.Reason.{Reason}
use Rattle.refusal.specs.declared.Refusal.{Refusal}

-- what must hold at an index, and the reason of the refusal if it does not
pub record Clause : Type 1 where
  pub holds : ℕ → Type 0
  pub reason : Reason

abbrev pub ◌else◌ : (ℕ → Type 0) → Reason → Clause
P else reason = record { holds = P; reason = reason }

infix 70 ◌else◌
-- a check is asked once, at no position; or its clauses are asked at 0, 1, .., size - 1, at each index in their order
pub data Check : Type 1 where
  once : Type 0 → Reason → Check
  each : ℕ → (ℕ → Position) → List Clause → Check

-- ---- one check

abbrev pub HoldAt : List Clause → ℕ → Type 0
HoldAt [] i = Unit
HoldAt (c ∷ cs) i = c.holds i × HoldAt cs i

abbrev pub FailAt : (ℕ → Position) → List Clause → ℕ → Refusal → Type 0
FailAt at [] i r = ⊥
FailAt at (c ∷ cs) i r = ((c.holds i → ⊥) × (r ≡ refusal c.reason (at i))) ⊎ (c.holds i × FailAt at cs i r)

-- clauses fail at an index, and at none below: §7.59
pub record FailFirst (size : ℕ) (at : ℕ → Position) (clauses : List Clause) (r : Refusal) : Type 0 where
  pub index : ℕ
  pub within : index < size
  pub below : (j : ℕ) → j < index → HoldAt clauses j
  pub there : FailAt at clauses index r

abbrev pub Passes : Check → Type 0
Passes (once P reason) = P
Passes (each size at clauses) = (i : ℕ) → i < size → HoldAt clauses i

abbrev pub Fails : Check → Refusal → Type 0
Fails (once P reason) r = (P → ⊥) × (r ≡ refusal reason Nothing)
Fails (each size at clauses) r = FailFirst size at clauses r

-- ---- a list of them

abbrev pub AllPass : List Check → Type 0
AllPass [] = Unit
AllPass (c ∷ cs) = Passes c × AllPass cs

-- those before it pass: §7.54
abbrev pub FirstFails : List Check → Refusal → Type 0
FirstFails [] r = ⊥
FirstFails (c ∷ cs) r = Fails c r ⊎ (Passes c × FirstFails cs r)
