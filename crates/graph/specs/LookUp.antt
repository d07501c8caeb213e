-- The entry of an arc that the code answers on any words: what bisection finds for the key of §3.5. It is nothing for a number from T on (§3.7), if 6 or 7
-- refuses the schedule, if the net's sizes are out of range, or if there is no such node. On readable words it is the arc's entry (proofs/LookUp).
use Rattle.std.specs.Prelude.{ℕ, ◌+◌, List, cond, ltb, None}
use Rattle.table.specs.Bisection.{look_up, Found}
use Rattle.net.specs.Net.{transition_count}
use Rattle.sequential.specs.Words.{entry_count}
use Rattle.graph.specs.Rows.{arcs_start, has_row}

module _ (net sheet : List ℕ) (n t : ℕ) where
  unfoldable pub arc_look_up : Found
  arc_look_up = cond (ltb t (transition_count net)) (cond (has_row net sheet n) (look_up sheet 2 (entry_count sheet) (arcs_start net n + t)) None) None
