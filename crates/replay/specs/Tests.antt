-- The checks of a log as a computation: for each clause of `replay_checks` a test that it fails, and what these tests find.
use Rattle.std.specs.Prelude.{ℕ, suc, ◌+◌, ◌*◌, Bool, true, not, List, [], ◌∷◌, ◌++◌, length, ltb, eqb}
use Rattle.std.proofs.Math.Option.{Option}
use Rattle.scan.specs.Scan.{found_or}
use Rattle.automaton.specs.Automaton.{allows}
use Rattle.refusal.specs.Limits.{most_firings}
use Rattle.refusal.specs.Finding.{Tests, asked, line_finds, finding}
use Rattle.refusal.specs.declared.Refusal.{Refusal}
use Rattle.sequential.specs.Petri.{PetriNet}
use Rattle.sequential.specs.Words.{graph}
use Rattle.replay.specs.Log.{firing_count, logged_at, firings_to}
use Rattle.replay.specs.Checks.{log_checks, leads, replay_checks}

abbrev pub log_tests : List ℕ → List Tests
log_tests log =
    asked (ltb (length log) 1)
    ∷ asked (ltb most_firings (firing_count log))
    ∷ asked (not (eqb (length log) (1 + 2 * firing_count log)))
    ∷ []

-- 23
unfoldable pub log_fault : List ℕ → Option Refusal
log_fault log = finding (log_checks log) (log_tests log)

module _ (N : PetriNet) (sheet log : List ℕ) where
  unfoldable pub other_node : ℕ → Bool
  other_node i = found_or true (λ m. not (eqb (logged_at log i) m)) (leads N sheet log (suc i))

  abbrev pub replay_tests : List Tests
  replay_tests = log_tests log ++ (((λ i. not (allows (graph N sheet) 0 (firings_to log (suc i)))) ∷ other_node ∷ []) ∷ [])

  -- 20 and 24 at one firing
  unfoldable pub firing_fault : ℕ → Option Refusal
  firing_fault i = line_finds (replay_checks N sheet log) replay_tests 3 i

  -- 23, 20 and 24
  unfoldable pub replay_fault : Option Refusal
  replay_fault = finding (replay_checks N sheet log) replay_tests
