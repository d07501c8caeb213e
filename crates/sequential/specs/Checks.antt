-- The checks of a schedule in their order, each with its clause and its number: of its words, and of the graph that they describe.
use Rattle.refusal.specs.declared.Reason.TheVariants.{NoArc, NoPathToAwait, NotHeld, NotOneChoiceSet, NotReached, OverCapacity, RootNotAwait, ScheduleLength, ScheduleOrder, ScheduleSize, ScheduleValue, WrongStart, WrongTarget}
use Rattle.std.specs.Prelude.{ℕ, ◌+◌, ◌*◌, ◌≤◌, ◌<◌, ◌≡◌, List, [], ◌∷◌, ◌++◌, length}
use Rattle.table.specs.Table.{KeyPasses}
use Rattle.automaton.specs.Reach.{Reachable}
use Rattle.refusal.specs.Limits.{most_nodes, most_entries, most_count}
use Rattle.refusal.specs.Checks.{◌else◌, Check, once, each, AllPass}
use Rattle.refusal.specs.declared.Position.TheVariants.{Entry, Place, Node}
use Rattle.sequential.specs.Petri.{PetriNet, HoldsTaken, HasRoom, fire}
use Rattle.sequential.specs.Words.{node_count, entry_count, entry_key, entry_value, arc_keys, key_limit, count_at, marking, graph, arc_node, arc_transition}
use Rattle.sequential.specs.Schedule.{Offers, Await, OneChoiceSet, ToAwait}

-- ---- the words

-- §3.2, with the limits of §1.4
abbrev pub SizesPass : List ℕ → Type 0
SizesPass sheet = (1 ≤ node_count sheet) × (node_count sheet ≤ most_nodes) × (entry_count sheet ≤ most_entries)

-- §3.5; keys below `arcs` are those of arcs
abbrev pub ArcValuePasses : List ℕ → ℕ → ℕ → Type 0
ArcValuePasses sheet arcs i = entry_key sheet i < arcs → entry_value sheet i < node_count sheet

-- the same, and §3.6 for a count, with the limit of §1.5
pub record ValuePasses (sheet : List ℕ) (arcs i : ℕ) : Type 0 where
  pub target : ArcValuePasses sheet arcs i
  pub some : arcs ≤ entry_key sheet i → 1 ≤ entry_value sheet i
  pub most : arcs ≤ entry_key sheet i → entry_value sheet i ≤ most_count

-- §7.6 and §7.7
abbrev pub shape_checks : List ℕ → List Check
shape_checks sheet =
    once (2 ≤ length sheet) ScheduleLength
    ∷ once (SizesPass sheet) ScheduleSize
    ∷ once (length sheet ≡ 2 + 2 * entry_count sheet) ScheduleLength
    ∷ []

module _ (N : PetriNet) (sheet : List ℕ) where
  -- then §7.8 and §7.9 at each entry, in the order of §7.56; positions are those of §7.53
  abbrev pub word_checks : List Check
  word_checks = shape_checks sheet ++ (each (entry_count sheet) Entry (KeyPasses sheet 2 (key_limit N sheet) else ScheduleOrder ∷ ValuePasses sheet (arc_keys N sheet) else ScheduleValue ∷ []) ∷ [])

  -- the same, but §7.9 is asked of arcs only: the counts may be anything
  abbrev pub arc_word_checks : List Check
  arc_word_checks = shape_checks sheet ++ (each (entry_count sheet) Entry (KeyPasses sheet 2 (key_limit N sheet) else ScheduleOrder ∷ ArcValuePasses sheet (arc_keys N sheet) else ScheduleValue ∷ []) ∷ [])

  -- the words are right: §3.1 to §3.6
  abbrev pub WordsPass : Type 0
  WordsPass = AllPass word_checks

  -- ---- the graph

  -- §6.5, in its two halves, and §6.6 of the arc of an entry
  abbrev pub ArcHolds : ℕ → Type 0
  ArcHolds i = entry_key sheet i < arc_keys N sheet → HoldsTaken N (marking N sheet (arc_node N sheet i)) (arc_transition N sheet i)

  abbrev pub ArcHasRoom : ℕ → Type 0
  ArcHasRoom i = entry_key sheet i < arc_keys N sheet → HasRoom N (marking N sheet (arc_node N sheet i)) (arc_transition N sheet i)

  abbrev pub ArcLands : ℕ → Type 0
  ArcLands i = entry_key sheet i < arc_keys N sheet → marking N sheet (entry_value sheet i) ≡ fire N (marking N sheet (arc_node N sheet i)) (arc_transition N sheet i)

  -- §7.10 to §7.17 and §7.27, in the order of §7.57: each line has the number of its clause. The first is §6.2
  abbrev pub graph_checks : List Check
  graph_checks =
      each N.places Place ((λ p. count_at N sheet 0 p ≡ N.start p) else WrongStart ∷ [])
      ∷ each (node_count sheet) Node ((λ n. (t : ℕ) × Offers N (graph N sheet) n t) else NoArc ∷ OneChoiceSet N (graph N sheet) else NotOneChoiceSet ∷ [])
      ∷ each 1 Node (Await N (graph N sheet) else RootNotAwait ∷ [])
      ∷ each (entry_count sheet) Entry (ArcHolds else NotHeld ∷ ArcHasRoom else OverCapacity ∷ ArcLands else WrongTarget ∷ [])
      ∷ each (node_count sheet) Node (Reachable (graph N sheet) else NotReached ∷ [])
      ∷ each (node_count sheet) Node (ToAwait N (graph N sheet) else NoPathToAwait ∷ [])
      ∷ []

  -- the words before the graph: §7.54
  abbrev pub sheet_checks : List Check
  sheet_checks = word_checks ++ graph_checks
