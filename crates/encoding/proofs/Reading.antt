-- An arc or a count in a sheet's words is the value at its key; outside the net and past the nodes there is none.
use Rattle.scan.proofs.Basics.{ℕ, ◌+◌, ◌*◌, ◌<◌, ◌≡◌, refl, ap, ◌∙◌, Option, none, some, option_map, List, length}
use Rattle.scan.proofs.Tests.{lt-ltb, le-ltb}
use Rattle.scan.proofs.First.{none-some}
use Rattle.scan.proofs.Tabulate.{tabulate-length}
use Rattle.automaton.specs.Quotient.{Confined}
use Rattle.sequential.specs.Petri.{PetriNet}
use Rattle.sequential.specs.Words.{node_count, entry_value, entry_with_key, arc_keys, arc_entry, arc, count_at, marking, graph}
use Rattle.sequential.proofs.Entries.{marking-node, marking-at}
use Rattle.encoding.specs.Encoding.{held}
use Rattle.scan.specs.Scan.{found_or}

module _ (N : PetriNet) (sheet : List ℕ) where
  pub arc-inside : (n t : ℕ) → n < node_count sheet → t < N.transitions
      → arc N sheet n t ≡ option_map (entry_value sheet) (entry_with_key sheet (n * N.transitions + t))
  unfolding arc arc_entry
  arc-inside n t l m = rw (lt-ltb n (node_count sheet) l, lt-ltb t N.transitions m)

  pub held-inside : (n p : ℕ) → n < node_count sheet → p < N.places
      → held N (graph N sheet) n p ≡ found_or 0 (entry_value sheet) (entry_with_key sheet (node_count sheet * N.transitions + n * N.places + p))
  unfolding held count_at arc_keys
  held-inside n p l m = marking-at N sheet n p l m ∙ rw (lt-ltb n (node_count sheet) l, lt-ltb p N.places m)

  -- the value at a key, where there is one
  pub value_there : (o : Option ℕ) (v : ℕ) → option_map (entry_value sheet) o ≡ some v → found_or 0 (entry_value sheet) o ≡ v
  value_there none v e = none-some none v refl e
  value_there (some i) v e = cc

  pub graph-confined : Confined (graph N sheet)
  unfolding arc arc_entry marking
  graph-confined = record { arcs = λ n t l. rw (le-ltb n (node_count sheet) l); labels = λ n l. rw (le-ltb n (node_count sheet) l) }

  pub graph-places : (n : ℕ) → n < (graph N sheet).nodes → length ((graph N sheet).label n) ≡ N.places
  graph-places n l = ap length (marking-node N sheet n l) ∙ tabulate-length (count_at N sheet n) N.places
