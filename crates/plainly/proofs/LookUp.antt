-- The cells of the tables by transition and place, and those of the grid by their keys.
use Rattle.std.specs.Prelude.{None, Some}
use Rattle.scan.proofs.Basics.{ℕ, ◌+◌, ◌*◌, ◌-◌, ◌/◌, ◌%◌, ◌≤◌, ◌<◌, arith, ◌≡◌, refl, sym, ◌∙◌, ◌⊎◌, inl, inr, ltb, Option, none, some, option_map, List, get_or}
use mathlib.Core.Bool.{and-false}
use lib.IntN.{pos, ◌-ℤ◌}
use Rattle.scan.specs.Scan.{found_or}
use Rattle.scan.proofs.Tests.{lt-ltb, le-ltb}
use Rattle.refusal.specs.Limits.{most_count}
use Rattle.table.specs.Bisection.{look_up, found_of, Found}
use Rattle.table.proofs.Bisection.{look_up_lem}
use Rattle.table.proofs.Table.{entry-some}
use Rattle.net.specs.Net.{place_count, transition_count, taken, put}
use Rattle.sequential.specs.Petri.{PetriNet, petri_net}
use Rattle.sequential.specs.Words.{node_count, entry_count, entry_value, entry_with_key, arc_keys, arc_entry, arc, count_at}
use Rattle.sequential.proofs.Entries.{row-div, row-mod}
use Rattle.graph.specs.Readable.{Readable}
use Rattle.plainly.specs.declared.Spread.{Spread}
use Rattle.plainly.specs.Numbers.{value_more, value_of, arc_code, cell_of, Keyed, NetSpread}

-- ---- the tables of the net

module _ {net : List ℕ} {s : Spread} (h : NetSpread net s) (t p : ℕ) (l : t < 32) (k : p < 32) where
  pub cell-taken : get_or s.taken (t * 32 + p) 0 ≡ taken net t p
  cell-taken = h.taken_is (t * 32 + p) (omega arith) ∙ rw (row-div t 32 p k, row-mod t 32 p k)

  pub cell-change : get_or s.change (t * 32 + p) (pos 0) ≡ pos (put net t p) -ℤ pos (taken net t p)
  cell-change = h.change_is (t * 32 + p) (omega arith) ∙ rw (row-div t 32 p k, row-mod t 32 p k)

-- ---- a value by its key

found_at : (o : Option ℕ) (i : ℕ) → found_of o ≡ Some i → o ≡ some i
found_at none i e = cc
found_at (some j) i e = cc

found-no : (o : Option ℕ) → found_of o ≡ None → o ≡ none
found-no none e = refl
found-no (some j) e = cc

module _ (sheet : List ℕ) (z : Keyed sheet) (key : ℕ) {f : Found} (e : f ≡ look_up sheet 2 (entry_count sheet) key) where
  entry_of : f ≡ found_of (entry_with_key sheet key)
  unfolding entry_with_key
  entry_of = e ∙ look_up_lem sheet 2 (entry_count sheet) key z.rise z.fit

  pub value-small : (i : ℕ) → f ≡ Some i → entry_value sheet i ≤ most_count
  unfolding entry_with_key
  value-small i h = let (l, k) = entry-some sheet 2 (entry_count sheet) key i (found_at _ i (sym entry_of ∙ h)) in z.values i l

  pub value_found : (more i : ℕ) → f ≡ Some i → {v : ℕ} → v ≡ entry_value sheet i → v + more ≡ value_of sheet more key
  unfolding value_of value_more
  value_found more i h q = rw (found_at (entry_with_key sheet key) i (sym entry_of ∙ h), q)

  pub value-absent : (more : ℕ) → f ≡ None → 0 ≡ value_of sheet more key
  unfolding value_of
  value-absent more h = rw (found-no (entry_with_key sheet key) (sym entry_of ∙ h))

-- ---- arcs and counts

module _ {net sheet : List ℕ} (r : Readable net sheet) where
  abbrev N : PetriNet
  N = petri_net net

  module _ (n t : ℕ) where
    pub arc-none : ((n < node_count sheet) × (transition_count net ≤ t)) ⊎ (node_count sheet ≤ n) → 0 ≡ arc_code (arc N sheet n t)
    unfolding arc arc_entry
    arc-none (inr l) = rw (le-ltb n (node_count sheet) l)
    arc-none (inl (k, l)) = rw (le-ltb t (transition_count net) l, and-false (ltb n (node_count sheet)))

    code_of : (o : Option ℕ) → found_or 0 (value_more sheet 1) o ≡ arc_code (option_map (entry_value sheet) o)
    unfolding value_more
    code_of none = refl
    code_of (some i) = refl

    pub arc_value : n < node_count sheet → t < transition_count net → value_of sheet 1 (n * transition_count net + t) ≡ arc_code (arc N sheet n t)
    unfolding value_of arc arc_entry
    arc_value l k = rw (lt-ltb n (node_count sheet) l, lt-ltb t (transition_count net) k) (code_of (entry_with_key sheet (n * transition_count net + t)))

  module _ (n p : ℕ) where
    pub count-none : ((n < node_count sheet) × (place_count net ≤ p)) ⊎ (node_count sheet ≤ n) → 0 ≡ count_at N sheet n p
    unfolding count_at
    count-none (inr l) = rw (le-ltb n (node_count sheet) l)
    count-none (inl (k, l)) = rw (le-ltb p (place_count net) l, and-false (ltb n (node_count sheet)))

    no_more : (o : Option ℕ) → found_or 0 (value_more sheet 0) o ≡ found_or 0 (entry_value sheet) o
    unfolding value_more
    no_more none = refl
    no_more (some i) = omega arith

    pub count-value : n < node_count sheet → p < place_count net
        → value_of sheet 0 (node_count sheet * transition_count net + n * place_count net + p) ≡ count_at N sheet n p
    unfolding value_of count_at arc_keys
    count-value l k =
        rw (lt-ltb n (node_count sheet) l, lt-ltb p (place_count net) k)
        (no_more (entry_with_key sheet (node_count sheet * transition_count net + n * place_count net + p)))

-- ---- cells

module _ (N : PetriNet) (sheet : List ℕ) (k : ℕ) where
  pub cell-arc : k % 64 < 32 → arc_code (arc N sheet (k / 64) (k % 64)) ≡ cell_of N sheet k
  unfolding cell_of
  cell-arc l = rw (lt-ltb (k % 64) 32 l)

  pub cell-count : 32 ≤ k % 64 → count_at N sheet (k / 64) (k % 64 - 32) ≡ cell_of N sheet k
  unfolding cell_of
  cell-count l = rw (le-ltb (k % 64) 32 l)
