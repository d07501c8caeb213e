-- The checks of durations and of loops as a computation: for each clause of `reaction_checks` a test that it fails, and what these tests find.
use Rattle.std.specs.Prelude.{ℕ, ◌+◌, ◌*◌, Bool, not, ◌&&◌, ◌||◌, List, [], ◌∷◌, ◌++◌, length, ltb, eqb}
use Rattle.std.proofs.Math.Option.{Option}
use Rattle.refusal.specs.Finding.{Tests, asked, line_finds, finding}
use Rattle.refusal.specs.declared.Refusal.{Refusal}
use Rattle.sequential.specs.Petri.{PetriNet}
use Rattle.sequential.specs.Words.{graph}
use Rattle.sequential.specs.Tests.{is_await}
use Rattle.reaction.specs.Loop.{on_loop}
use Rattle.reaction.specs.Words.{duration_count, early, late, most_duration}
use Rattle.reaction.specs.Checks.{duration_checks, loop_checks, reaction_checks}

module _ (durations : List ℕ) where
  unfoldable pub shape_passes : ℕ → Bool
  shape_passes transitions = eqb (duration_count durations) transitions && eqb (length durations) (1 + 2 * transitions)

  -- the earliest must not be above the latest, so it is enough to compare the latest with the limit
  unfoldable pub duration_fails : ℕ → Bool
  duration_fails t = ltb (late durations t) (early durations t) || ltb most_duration (late durations t)

  abbrev pub duration_tests : ℕ → List Tests
  duration_tests transitions = asked (not (shape_passes transitions)) ∷ (duration_fails ∷ []) ∷ []

  -- 32
  unfoldable pub durations_fault : ℕ → Option Refusal
  durations_fault transitions = finding (duration_checks durations transitions) (duration_tests transitions)

module _ (N : PetriNet) (sheet : List ℕ) where
  abbrev pub loop_tests : List Tests
  loop_tests = (on_loop (graph N sheet) (is_await N (graph N sheet)) ∷ []) ∷ []

  -- 33 at one node
  unfoldable pub loop_fault : ℕ → Option Refusal
  loop_fault n = line_finds (loop_checks N sheet) loop_tests 0 n

  abbrev pub reaction_tests : List ℕ → List Tests
  reaction_tests durations = duration_tests durations N.transitions ++ loop_tests

  -- 32 and 33
  unfoldable pub reaction_fault : List ℕ → Option Refusal
  reaction_fault durations = finding (reaction_checks N sheet durations) (reaction_tests durations)
