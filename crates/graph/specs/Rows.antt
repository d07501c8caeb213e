-- The rows of a node that the code answers on any words: what one walk along its keys finds. They are 0 if 6 or 7 refuses the schedule, if the net's sizes
-- are out of range, or if there is no such node. On readable words they are the node's marking and the entries of its arcs and counts (Demands, `RowsRight`).
use Rattle.std.specs.Prelude.{ℕ, ◌+◌, ◌*◌, ◌≤◌, ◌<◌, ◌≡◌, List, Bool, cond, not, ◌&&◌, length, get_or, replicate, ltb, leb}
use Rattle.std.proofs.Math.Option.{Option, none}
use Rattle.scan.specs.Scan.{found}
use Rattle.row_starts.specs.RowStarts.{row_start}
use Rattle.table.specs.Bisection.{lower_bound}
use Rattle.table.specs.Row.{entry_code, entry_row, value_row}
use Rattle.refusal.specs.Limits.{most_places, most_transitions, most_nodes, most_entries}
use Rattle.net.specs.Net.{place_count, transition_count}
use Rattle.sequential.specs.Petri.{PetriNet}
use Rattle.sequential.specs.Words.{node_count, entry_count, entry_with_key, arc_keys, arc_entry}
use Rattle.sequential.specs.Check.{shape_fault}

-- ---- entries as numbers: 1 plus the index, or 0 if there is none

module _ (N : PetriNet) (sheet : List ℕ) (n : ℕ) where
  -- the entry of the count of place p at node n: §3.6
  unfoldable pub count_entry : ℕ → Option ℕ
  count_entry p = cond (ltb n (node_count sheet) && ltb p N.places) (entry_with_key sheet (arc_keys N sheet + n * N.places + p)) none

  unfoldable pub arc_entry_code : ℕ → ℕ
  arc_entry_code t = entry_code (arc_entry N sheet n t)

  unfoldable pub count_entry_code : ℕ → ℕ
  count_entry_code p = entry_code (count_entry p)

-- ---- rows

-- the first key of node n's arcs (§3.5), as the page of row starts has it (§3.9)
unfoldable pub arcs_start : List ℕ → ℕ → ℕ
arcs_start net n = row_start n (transition_count net)

-- the key at which the keys of all arcs end (§3.5), or 0 if a size is out of range
unfoldable pub arcs_end : List ℕ → ℕ → ℕ
arcs_end net nodes = cond (leb nodes most_nodes && leb (transition_count net) most_transitions) (nodes * transition_count net) 0

-- the first key of node n's counts, which follow all arcs (§3.6), or 0 if a size is out of range
unfoldable pub counts_start : List ℕ → ℕ → ℕ → ℕ
counts_start net nodes n = cond (leb n most_nodes && leb (place_count net) most_places) (arcs_end net nodes + n * place_count net) 0

module _ (net sheet : List ℕ) (n : ℕ) where
  -- the sizes are in range and n is a node
  unfoldable pub has_row : Bool
  has_row = leb (place_count net) most_places && (leb (transition_count net) most_transitions && (not (found (shape_fault sheet)) && ltb n (node_count sheet)))

  -- the same, as the code reads the words
  pub record HasRow : Type 0 where
    pub few_places : place_count net ≤ most_places
    pub few_transitions : transition_count net ≤ most_transitions
    pub few_nodes : get_or sheet 0 0 ≤ most_nodes
    pub few_entries : get_or sheet 1 0 ≤ most_entries
    pub long : length sheet ≡ 2 + 2 * get_or sheet 1 0
    pub node : n < get_or sheet 0 0

  unfoldable pub marking_row : List ℕ
  marking_row = cond has_row (value_row sheet 2 (entry_count sheet) (counts_start net (node_count sheet) n) (place_count net)) (replicate most_places 0)

  unfoldable pub count_entry_row : List ℕ
  count_entry_row = cond has_row (entry_row sheet 2 (entry_count sheet) (counts_start net (node_count sheet) n) (place_count net)) (replicate most_places 0)

  unfoldable pub arc_entry_row : List ℕ
  arc_entry_row = cond has_row (entry_row sheet 2 (entry_count sheet) (arcs_start net n) (transition_count net)) (replicate most_transitions 0)

-- how many entries have a key below those of counts; if the keys rise, these are the arcs
unfoldable pub arc_count_reply : List ℕ → List ℕ → ℕ
arc_count_reply net sheet = cond (has_row net sheet 0) (lower_bound sheet 2 (entry_count sheet) (counts_start net (node_count sheet) 0)) 0
