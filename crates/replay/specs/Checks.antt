-- The checks of a log in their order (§7.60), each with its clause and its number.
use Rattle.refusal.specs.declared.Reason.TheVariants.{LogShape, NotOffered, WrongNode}
use Rattle.std.specs.Prelude.{ℕ, suc, ◌+◌, ◌*◌, ◌≤◌, ◌≡◌, true, List, [], ◌∷◌, ◌++◌, length}
use Rattle.std.proofs.Math.Option.{Option, some}
use Rattle.automaton.specs.Automaton.{follow, allows}
use Rattle.refusal.specs.Limits.{most_firings}
use Rattle.refusal.specs.Checks.{◌else◌, Check, once, each}
use Rattle.refusal.specs.declared.Position.TheVariants.{Record}
use Rattle.sequential.specs.Petri.{PetriNet}
use Rattle.sequential.specs.Words.{graph}
use Rattle.replay.specs.Log.{firing_count, logged_at, firings_to}

-- §7.23
abbrev pub log_checks : List ℕ → List Check
log_checks log =
    once (1 ≤ length log) LogShape
    ∷ once (firing_count log ≤ most_firings) LogShape
    ∷ once (length log ≡ 1 + 2 * firing_count log) LogShape
    ∷ []

module _ (N : PetriNet) (sheet log : List ℕ) where
  -- where the first n firings lead from the root, if they can be followed
  abbrev pub leads : ℕ → Option ℕ
  leads n = follow (graph N sheet) 0 (firings_to log n)

  -- the firings up to the one at index i can be followed from the root: §7.20
  abbrev pub FiringOffered : ℕ → Type 0
  FiringOffered i = allows (graph N sheet) 0 (firings_to log (suc i)) ≡ true

  -- the firings up to the one at index i lead to the node that is logged for it: §7.24
  abbrev pub NodeReached : ℕ → Type 0
  NodeReached i = leads (suc i) ≡ some (logged_at log i)

  -- both checks at each firing in turn, with its index as the position: §7.61
  abbrev pub replay_checks : List Check
  replay_checks = log_checks log ++ (each (firing_count log) Record (FiringOffered else NotOffered ∷ NodeReached else WrongNode ∷ []) ∷ [])
