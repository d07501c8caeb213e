-- The net and the graph on any words, read row by row: weights and arcs come from rows, and a size above the limit is cut to the limit.
-- If 1 to 5 and 26 refuse nothing, this net is the net; if the arcs are readable, this graph is the graph (proofs/Rows).
use Rattle.std.specs.Prelude.{ℕ, ◌-◌, min, List, Bool, true, get_or, ltb}
use Rattle.std.proofs.Math.Option.{Option}
use Rattle.scan.specs.Scan.{when}
use Rattle.refusal.specs.Limits.{most_places, most_transitions, most_nodes}
use Rattle.net.specs.Net.{place_count, transition_count}
use Rattle.net.specs.Accessors.{taken_row_reply, put_row_reply, start_row_reply, capacity_row_reply}
use Rattle.automaton.specs.Automaton.{Automaton}
use Rattle.sequential.specs.Petri.{PetriNet}
use Rattle.sequential.specs.Words.{node_count, entry_value, marking}
use Rattle.graph.specs.Rows.{arc_entry_row}

unfoldable pub net_by_rows : List ℕ → PetriNet
net_by_rows net = record {
  places = min (place_count net) most_places;
  transitions = min (transition_count net) most_transitions;
  taken = λ t p. get_or (taken_row_reply net t) p 0;
  put = λ t p. get_or (put_row_reply net t) p 0;
  start = λ p. get_or (start_row_reply net) p 0;
  capacity = λ p. when (ltb 0 (get_or (capacity_row_reply net) p 0)) (get_or (capacity_row_reply net) p 0);
  kept = λ t. true;
}

-- transition t has an arc in a row
unfoldable pub present : List ℕ → ℕ → Bool
present row t = ltb 0 (get_or row t 0)

-- the target of the arc by t: the value of the entry that the row has for t
unfoldable pub arc_by_row : List ℕ → List ℕ → ℕ → Option ℕ
arc_by_row sheet row t = when (present row t) (entry_value sheet (get_or row t 0 - 1))

-- labels are left empty, since nothing here asks for them
unfoldable pub graph_by_rows : List ℕ → List ℕ → Automaton
graph_by_rows net sheet = record {
  nodes = min (node_count sheet) most_nodes;
  transitions = min (transition_count net) most_transitions;
  arc = λ n t. arc_by_row sheet (arc_entry_row net sheet n) t;
  label = marking (net_by_rows net) sheet;
}
