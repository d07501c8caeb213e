-- The checks of durations and of loops in their order (§7.66), each with its clause and its number.
use Rattle.refusal.specs.declared.Reason.TheVariants.{BadDuration, EndlessReaction}
use Rattle.std.specs.Prelude.{ℕ, List, [], ◌∷◌, ◌++◌}
use Rattle.refusal.specs.Checks.{◌else◌, Check, once, each}
use Rattle.refusal.specs.declared.Position.TheVariants.{Entry, Node}
use Rattle.sequential.specs.Petri.{PetriNet}
use Rattle.sequential.specs.Words.{node_count, graph}
use Rattle.sequential.specs.Tests.{is_await}
use Rattle.reaction.specs.Loop.{OnNoLoop}
use Rattle.reaction.specs.Words.{ShapePasses, DurationPasses}

-- §7.32: T and the length are refused at no position, then each transition as an entry
abbrev pub duration_checks : List ℕ → ℕ → List Check
duration_checks durations transitions =
    once (ShapePasses durations transitions) BadDuration
    ∷ each transitions Entry (DurationPasses durations else BadDuration ∷ [])
    ∷ []

module _ (N : PetriNet) (sheet : List ℕ) where
  -- §7.33, node by node
  abbrev pub loop_checks : List Check
  loop_checks = each (node_count sheet) Node (OnNoLoop (graph N sheet) (is_await N (graph N sheet)) else EndlessReaction ∷ []) ∷ []

  -- 33 after 32
  abbrev pub reaction_checks : List ℕ → List Check
  reaction_checks durations = duration_checks durations N.transitions ++ loop_checks
