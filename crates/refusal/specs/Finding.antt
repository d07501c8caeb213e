-- Checks in an order as a computation: each clause is given with a test that it fails, and the refusal is that of the first clause whose test says so.
-- `finding-tells` of proofs/Checks shows that, if the tests decide the clauses, this is the check that fails first.
use Rattle.std.specs.Prelude.{ℕ, zero, suc, Bool, List, [], ◌∷◌}
use Rattle.std.proofs.Math.Option.{Option, none}
use Rattle.scan.specs.Scan.{or_else, when, first}
use Rattle.refusal.specs.Refusal.{refusal}
use Rattle.refusal.specs.Checks.{Clause, Check, once, each}
use Rattle.refusal.specs.declared.Position.{Position}
use Rattle.refusal.specs.declared.Position.TheVariants.{Nothing}
use Rattle.refusal.specs.declared.Refusal.{Refusal}

-- the tests of an index, one for each clause
abbrev pub Tests : Type 0
Tests = List (ℕ → Bool)

unfoldable pub found_at : (ℕ → Position) → List Clause → Tests → ℕ → Option Refusal
found_at at [] fails i = none
found_at at (c ∷ cs) [] i = none
found_at at (c ∷ []) (f ∷ fails) i = when (f i) (refusal c.reason (at i))
found_at at (c ∷ d ∷ cs) (f ∷ fails) i = or_else (when (f i) (refusal c.reason (at i))) (found_at at (d ∷ cs) fails i)

unfoldable pub found_by : Check → Tests → Option Refusal
found_by (once P reason) [] = none
found_by (once P reason) (f ∷ fails) = when (f 0) (refusal reason Nothing)
found_by (each size at clauses) fails = first (found_at at clauses fails) size

unfoldable pub finding : List Check → List Tests → Option Refusal
finding [] tests = none
finding (c ∷ cs) [] = none
finding (c ∷ []) (fails ∷ tests) = found_by c fails
finding (c ∷ d ∷ cs) (fails ∷ tests) = or_else (found_by c fails) (finding (d ∷ cs) tests)

-- what line k of a list finds at index i
unfoldable pub line_finds : List Check → List Tests → ℕ → ℕ → Option Refusal
line_finds [] tests k i = none
line_finds (c ∷ cs) [] k i = none
line_finds (once P reason ∷ cs) (fails ∷ tests) zero i = found_by (once P reason) fails
line_finds (each size at clauses ∷ cs) (fails ∷ tests) zero i = found_at at clauses fails i
line_finds (c ∷ cs) (fails ∷ tests) (suc k) i = line_finds cs tests k i

-- the test of a clause that is asked once
abbrev pub asked : Bool → Tests
asked b = (λ i. b) ∷ []
