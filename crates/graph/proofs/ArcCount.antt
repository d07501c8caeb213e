-- The entries that the code takes for arcs are the arcs: the keys rise, and those of arcs come first.
use Rattle.scan.proofs.Basics.{ℕ, ◌≤◌, ◌<◌, arith, ◌≡◌, sym, ap, true, false, List}
use Rattle.scan.proofs.Tests.{lt-ltb, le-ltb}
use Rattle.scan.proofs.Count.{count-prefix}
use Rattle.table.specs.Bisection.{lower_bound}
use Rattle.table.proofs.Bisection.{LowerBound}
use Rattle.sequential.specs.Petri.{petri_net}
use Rattle.sequential.specs.Words.{node_count, entry_count, entry_key, arc_keys, is_arc}
use Rattle.sequential.specs.Check.{arc_count}
use Rattle.graph.specs.Readable.{ArcsReadable}
use Rattle.graph.specs.Rows.{arc_count_reply}
use Rattle.graph.proofs.Starts.{counts-start-is}
use Rattle.graph.proofs.HasRow.{has-row}
use Rattle.graph.proofs.Bounds.{start-bound}

module _ (net sheet : List ℕ) (r : ArcsReadable net sheet) where
  pub arc-count-is : arc_count_reply net sheet ≡ lower_bound sheet 2 (entry_count sheet) (arc_keys (petri_net net) sheet)
  unfolding arc_count_reply arc_keys
  arc-count-is =
      let s = r.sizes in
      rw (has-row net sheet 0 r s.some_node, counts-start-is net (node_count sheet) 0 s.few_nodes (omega arith) s.few_transitions s.few_places)
      (ap (lower_bound sheet 2 (entry_count sheet)) (omega arith))

  bound : LowerBound sheet 2 (entry_count sheet) (arc_keys (petri_net net) sheet) (arc_count_reply net sheet)
  bound = rw arc-count-is (start-bound r (arc_keys (petri_net net) sheet))

  pub arcs-within : arc_count_reply net sheet ≤ entry_count sheet
  arcs-within = bound.within

  pub arcs-below : (i : ℕ) → i < arc_count_reply net sheet → is_arc (petri_net net) sheet i ≡ true
  unfolding is_arc entry_key
  arcs-below i l = lt-ltb _ _ (bound.below i l)

  pub arcs-above : (i : ℕ) → arc_count_reply net sheet ≤ i → i < entry_count sheet → is_arc (petri_net net) sheet i ≡ false
  unfolding is_arc entry_key
  arcs-above i l m = le-ltb _ _ (bound.above i l m)

  pub arc-count-right : arc_count_reply net sheet ≡ arc_count (petri_net net) sheet
  unfolding arc_count
  arc-count-right = sym (count-prefix (is_arc (petri_net net) sheet) (entry_count sheet) (arc_count_reply net sheet) arcs-within arcs-below arcs-above)
