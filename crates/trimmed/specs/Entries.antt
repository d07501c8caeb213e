-- The words of the trimmed schedule, entry by entry (§10.36): the entries of kept nodes in their old order, each with its new key and value. So one pass over the entries writes them.
use Rattle.std.specs.Prelude.{ℕ, ◌+◌, ◌*◌, ◌-◌, ◌/◌, ◌%◌, Bool, cond, List, ◌∷◌, ◌++◌, length}
use Rattle.std.proofs.Math.Option.{Option}
use Rattle.scan.specs.Scan.{when}
use Rattle.automaton.specs.Automaton.{Automaton}
use Rattle.sequential.specs.Petri.{PetriNet}
use Rattle.sequential.specs.Words.{entry_count, entry_key, entry_value, arc_keys, graph, is_arc, arc_node, arc_transition}
use Rattle.encoding.specs.Encoding.{gather}
use Rattle.trimmed.specs.Trim.{is_kept, new_number, trimmed_graph}

module _ (N : PetriNet) (sheet : List ℕ) where
  abbrev A : Automaton
  A = graph N sheet

  -- the node and the place to which an entry of a count belongs: §3.6
  unfoldable pub count_node : ℕ → ℕ
  count_node i = (entry_key sheet i - arc_keys N sheet) / N.places

  unfoldable pub count_place : ℕ → ℕ
  count_place i = (entry_key sheet i - arc_keys N sheet) % N.places

  -- the node to which an entry of an arc or of a count belongs
  unfoldable pub entry_node : ℕ → ℕ
  entry_node i = cond (is_arc N sheet i) (arc_node N sheet i) (count_node i)

  unfoldable pub entry_kept : ℕ → Bool
  entry_kept i = is_kept A (entry_node i)

  -- the new key of an entry: §3.5, §3.6
  unfoldable pub new_key : ℕ → ℕ
  new_key i =
      cond (is_arc N sheet i) (new_number A (entry_node i) * N.transitions + arc_transition N sheet i)
      ((trimmed_graph A).nodes * N.transitions + new_number A (entry_node i) * N.places + count_place i)

  -- an arc's target gets its new number, a count stays
  unfoldable pub new_value : ℕ → ℕ
  new_value i = cond (is_arc N sheet i) (new_number A (entry_value sheet i)) (entry_value sheet i)

  unfoldable pub kept_key : ℕ → Option ℕ
  kept_key i = when (entry_kept i) (new_key i)

  unfoldable pub kept_value : ℕ → Option ℕ
  kept_value i = when (entry_kept i) (new_value i)

  -- §3.1
  unfoldable pub kept_words : List ℕ
  kept_words =
      let keys = gather kept_key (entry_count sheet) in
      (trimmed_graph A).nodes ∷ length keys ∷ (keys ++ gather kept_value (entry_count sheet))
