-- The rows that the code answers are, on readable words, the node's marking and the entries of its arcs and counts.
use Rattle.scan.proofs.Basics.{ℕ, ◌+◌, ◌*◌, ◌≤◌, ◌<◌, arith, ◌≡◌, refl, Bool, true, false, cond, ◌&&◌, ltb, Option, none, List}
use Rattle.scan.proofs.Tests.{lt-ltb, by_test}
use Rattle.scan.specs.Scan.{found_or, tabulate}
use Rattle.table.specs.Row.{entry_code}
use Rattle.table.proofs.Row.{entry-row-is, value-row-is}
use Rattle.net.specs.Net.{place_count, transition_count}
use Rattle.sequential.specs.Petri.{PetriNet, petri_net}
use Rattle.sequential.specs.Words.{node_count, entry_count, entry_value, entry_with_key, arc_keys, arc_entry, count_at}
use Rattle.sequential.specs.Known.{ArcsHold}
use Rattle.sequential.proofs.Words.{words-rise, words-fit}
use Rattle.graph.specs.Readable.{ArcsReadable}
use Rattle.graph.specs.Rows.{arcs_start, counts_start, count_entry, arc_entry_code, count_entry_code, marking_row, arc_entry_row, count_entry_row}
use Rattle.graph.proofs.Starts.{arcs-start-is, counts-start-is}
use Rattle.graph.proofs.HasRow.{has-row}

-- ---- an entry that is told

code-cond : (b : Bool) (o : Option ℕ) → entry_code (cond b o none) ≡ cond b (entry_code o) 0
code-cond true o = refl
code-cond false o = refl

pub count_held : (N : PetriNet) (sheet : List ℕ) (n p : ℕ) → count_at N sheet n p ≡ found_or 0 (entry_value sheet) (count_entry N sheet n p)
unfolding count_at count_entry
count_held N sheet n p = by_test (ltb n (node_count sheet) && ltb p N.places) (λ h. rw h) (λ h. rw h)

-- ---- readable words

module _ (net sheet : List ℕ) (r : ArcsReadable net sheet) (n : ℕ) (l : n < node_count sheet) where
  abbrev N : PetriNet
  N = petri_net net

  w : ArcsHold N sheet
  w = r.holds

  few : n ≤ 128
  few = omega (arith, r.sizes.few_nodes)

  first-arc : arcs_start net n ≡ n * transition_count net
  first-arc = let s = r.sizes in arcs-start-is net n (omega arith) s.some_transition s.few_transitions

  first_count : counts_start net (node_count sheet) n ≡ node_count sheet * transition_count net + n * place_count net
  first_count = let s = r.sizes in counts-start-is net (node_count sheet) n s.few_nodes few s.few_transitions s.few_places

  pub marking-right : marking_row net sheet n ≡ tabulate (count_at (petri_net net) sheet n) 32
  unfolding marking_row count_at entry_value entry_with_key arc_keys
  marking-right =
      rw (has-row net sheet n r l, first_count) (value-row-is sheet 2 (entry_count sheet) (node_count sheet * transition_count net + n * place_count net) (place_count net)
      (words-rise N sheet w) (omega (arith, w.shape.whole)) (count_at N sheet n) (λ p h. rw (lt-ltb n (node_count sheet) l)))

  pub arcs-right : arc_entry_row net sheet n ≡ tabulate (arc_entry_code (petri_net net) sheet n) 32
  unfolding arc_entry_row arc_entry_code arc_entry entry_with_key
  arcs-right =
      rw (has-row net sheet n r l, first-arc) (entry-row-is sheet 2 (entry_count sheet) (n * transition_count net) (transition_count net) (words-rise N sheet w) (words-fit N sheet w)
      (arc_entry_code N sheet n) (λ t h. rw (lt-ltb n (node_count sheet) l) (code-cond (ltb t (transition_count net)) _)))

  pub counts-right : count_entry_row net sheet n ≡ tabulate (count_entry_code (petri_net net) sheet n) 32
  unfolding count_entry_row count_entry_code count_entry entry_with_key arc_keys
  counts-right =
      rw (has-row net sheet n r l, first_count) (entry-row-is sheet 2 (entry_count sheet) (node_count sheet * transition_count net + n * place_count net) (place_count net)
      (words-rise N sheet w) (words-fit N sheet w) (count_entry_code N sheet n) (λ p h. rw (lt-ltb n (node_count sheet) l) (code-cond (ltb p (place_count net)) _)))
