-- The checks of mending in their order (§7.62), each with its clause and its number.
use Rattle.refusal.specs.declared.Reason.TheVariants.{NoArc, NoCountsFit, NoPathToAwait, NotOneChoiceSet, NotReached, RootNotAwait}
use Rattle.std.specs.Prelude.{ℕ, List, [], ◌∷◌, ◌++◌}
use Rattle.automaton.specs.Reach.{Reachable}
use Rattle.refusal.specs.Checks.{◌else◌, Check, once, each}
use Rattle.refusal.specs.declared.Position.TheVariants.{Node}
use Rattle.sequential.specs.Petri.{PetriNet}
use Rattle.sequential.specs.Words.{node_count, graph}
use Rattle.sequential.specs.Schedule.{Offers, Await, OneChoiceSet, ToAwait}
use Rattle.sequential.specs.Checks.{arc_word_checks}
use Rattle.mended.specs.Arcs.{CountsExist}

module _ (N : PetriNet) (sheet : List ℕ) where
  -- §7.11 to §7.13, §7.16, §7.17 and §7.25: these checks look at arcs only
  abbrev pub arc_checks : List Check
  arc_checks =
      each (node_count sheet) Node ((λ n. (t : ℕ) × Offers N (graph N sheet) n t) else NoArc ∷ OneChoiceSet N (graph N sheet) else NotOneChoiceSet ∷ [])
      ∷ each 1 Node (Await N (graph N sheet) else RootNotAwait ∷ [])
      ∷ each (node_count sheet) Node (Reachable (graph N sheet) else NotReached ∷ [])
      ∷ each (node_count sheet) Node (ToAwait N (graph N sheet) else NoPathToAwait ∷ [])
      ∷ once (CountsExist N sheet) NoCountsFit
      ∷ []

  -- first the checks of the words, with §7.9 asked of arcs only, then those
  abbrev pub mend_checks : List Check
  mend_checks = arc_word_checks N sheet ++ arc_checks
