-- The schedule's words, §3.1 to §3.8: V, K, then K keys, then K values. A missing word counts as 0.
use Rattle.std.specs.Prelude.{ℕ, ◌+◌, ◌*◌, ◌/◌, ◌%◌, List, [], Bool, cond, ◌&&◌, get_or, ltb}
use Rattle.std.proofs.Math.Option.{Option, none, map}
use Rattle.scan.specs.Scan.{found_or, tabulate}
use Rattle.table.specs.Table.{key_at, value_at, entry_of}
use Rattle.automaton.specs.Automaton.{Automaton}
use Rattle.sequential.specs.Petri.{PetriNet}

module _ (sheet : List ℕ) where
  abbrev pub node_count : ℕ
  node_count = get_or sheet 0 0

  abbrev pub entry_count : ℕ
  entry_count = get_or sheet 1 0

  unfoldable pub entry_key : ℕ → ℕ
  entry_key i = key_at sheet 2 i

  unfoldable pub entry_value : ℕ → ℕ
  entry_value i = value_at sheet 2 entry_count i

  unfoldable pub entry_with_key : ℕ → Option ℕ
  entry_with_key key = entry_of sheet 2 entry_count key

module _ (N : PetriNet) (sheet : List ℕ) where
  -- keys of arcs are below this number (§3.5), keys of counts are not (§3.6)
  unfoldable pub arc_keys : ℕ
  arc_keys = node_count sheet * N.transitions

  -- §3.4
  unfoldable pub key_limit : ℕ
  key_limit = node_count sheet * (N.transitions + N.places)

  -- the keys are V rows of T keys for arcs, then V rows of P keys for counts. There is no entry if the key is missing, or if n is no node or t no transition: §3.7
  unfoldable pub arc_entry : ℕ → ℕ → Option ℕ
  arc_entry n t = cond (ltb n (node_count sheet) && ltb t N.transitions) (entry_with_key sheet (n * N.transitions + t)) none

  unfoldable pub arc : ℕ → ℕ → Option ℕ
  arc n t = map (entry_value sheet) (arc_entry n t)

  -- the count of place p at node n, 0 if the key is missing: §3.8
  unfoldable pub count_at : ℕ → ℕ → ℕ
  count_at n p = cond (ltb n (node_count sheet) && ltb p N.places) (found_or 0 (entry_value sheet) (entry_with_key sheet (arc_keys + n * N.places + p))) 0

  -- §4.1
  unfoldable pub marking : ℕ → List ℕ
  marking n = cond (ltb n (node_count sheet)) (tabulate (count_at n) N.places) []

  -- the graph that the words describe, each node with its marking
  abbrev pub graph : Automaton
  graph = record { nodes = node_count sheet; transitions = N.transitions; arc = arc; label = marking }

  -- ---- the arc of an entry

  unfoldable pub is_arc : ℕ → Bool
  is_arc i = ltb (entry_key sheet i) arc_keys

  -- the node that it leaves, and its transition; the value of the entry is its target
  unfoldable pub arc_node : ℕ → ℕ
  arc_node i = entry_key sheet i / N.transitions

  unfoldable pub arc_transition : ℕ → ℕ
  arc_transition i = entry_key sheet i % N.transitions
