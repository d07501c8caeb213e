-- On readable words the look-up of an arc answers the arc's entry; and at which index the words have an entry's value.
use Rattle.std.specs.Prelude.{None, Some}
use Rattle.scan.proofs.Basics.{ℕ, ◌+◌, ◌≤◌, ◌<◌, arith, ◌≡◌, refl, sym, ◌∙◌, false, ltb, Option, none, some, List, length, get_or}
use native.Mathlib.Decide.{dec_lt}
use lib.ListN.{get_or-eq_default}
use Rattle.scan.proofs.Tests.{lt-ltb, le-ltb, by_test, not-true→false}
use Rattle.table.specs.Table.{value_at}
use Rattle.table.specs.Bisection.{found_of}
use Rattle.table.proofs.Bisection.{look_up_lem}
use Rattle.net.specs.Net.{transition_count}
use Rattle.sequential.specs.Petri.{petri_net}
use Rattle.sequential.specs.Words.{node_count, entry_count, entry_value, entry_with_key, arc_entry}
use Rattle.sequential.proofs.Words.{words-rise, words-fit}
use Rattle.graph.specs.Readable.{ArcsReadable}
use Rattle.graph.specs.Rows.{has_row}
use Rattle.graph.specs.LookUp.{arc_look_up}
use Rattle.graph.proofs.Starts.{arcs-start-is}
use Rattle.graph.proofs.HasRow.{has-row, has_row_out}

found-same : (o u : Option ℕ) → found_of o ≡ found_of u → o ≡ u
found-same none none e = refl
found-same none (some i) e = cc
found-same (some i) none e = cc
found-same (some i) (some j) e = cc

module _ (net sheet : List ℕ) (r : ArcsReadable net sheet) (n t : ℕ) where
  -- at a node, below T, the look-up among rising keys is the entry with the key; elsewhere there is neither
  pub look-up-right : arc_look_up net sheet n t ≡ found_of (arc_entry (petri_net net) sheet n t)
  unfolding arc_look_up arc_entry entry_with_key
  look-up-right =
      let w = r.holds in
      let s = r.sizes in
      elim (dec_lt n (node_count sheet)) [
        | yes l ↦
            let m : n < 128 = omega arith in
            by_test (ltb t (transition_count net))
            (λ e. rw (lt-ltb n (node_count sheet) l, e, has-row net sheet n r l, arcs-start-is net n m s.some_transition s.few_transitions)
            (look_up_lem sheet 2 (entry_count sheet) _ (words-rise _ sheet w) (words-fit _ sheet w)))
            (λ e. rw (lt-ltb n (node_count sheet) l, e))
        | no l ↦
            let h : has_row net sheet n ≡ false = not-true→false _ (λ h. let k = (has_row_out net sheet n h).node in omega arith) in
            by_test (ltb t (transition_count net))
            (λ e. rw (h, e, le-ltb n (node_count sheet) (omega arith)))
            (λ e. rw (h, e, le-ltb n (node_count sheet) (omega arith)))
      ]

  -- so what is found is the arc's entry, and where nothing is found it has none
  pub arc-found : (i : ℕ) → arc_look_up net sheet n t ≡ Some i → arc_entry (petri_net net) sheet n t ≡ some i
  arc-found i h = found-same _ (some i) (sym look-up-right ∙ h)

  pub arc-missing : arc_look_up net sheet n t ≡ None → arc_entry (petri_net net) sheet n t ≡ none
  arc-missing h = found-same _ none (sym look-up-right ∙ h)

-- past the words an entry's value is 0
pub value_past : (sheet : List ℕ) (i : ℕ) → length sheet ≤ 2 + get_or sheet 1 0 + i → 0 ≡ entry_value sheet i
unfolding entry_value value_at
value_past sheet i l = sym (get_or-eq_default sheet 0 l)
