-- The list of changes: exactly the counts that differ, by rising key; it is empty if none does.
use Rattle.scan.proofs.Basics.{ℕ, zero, suc, ◌+◌, ◌*◌, ◌≤◌, ◌<◌, arith, ◌≡◌, refl, sym, ap, ◌∙◌, ◌↔◌, true, false, not, Option, none, some, List, [], ◌∷◌, ◌++◌, length, get_or, length-append}
use lib.ListN.{get_or-append}
use lib.Seq.{get_or-append-add}
use Rattle.scan.proofs.Tests.{eqb-false, eq-eqb, ne_eqb, not-true}
use Rattle.scan.specs.Scan.{found}
use Rattle.scan.proofs.First.{when-some, when-hit, when-miss}
use Rattle.scan.proofs.Count.{pigeonhole}
use Rattle.automaton.specs.Automaton.{Automaton}
use Rattle.sequential.specs.Petri.{PetriNet}
use Rattle.sequential.specs.Words.{node_count, count_at, graph}
use Rattle.sequential.specs.Known.{ArcsHold}
use Rattle.sequential.proofs.Entries.{marking-at}
use Rattle.encoding.specs.Encoding.{gather, gather_rows}
use Rattle.encoding.proofs.Lists.{Stands}
use Rattle.encoding.proofs.Gather.{rows-between, rows-paired, rows_out, rows_in}
use Rattle.encoding.proofs.Encoding.{found-when}
use Rattle.mended.specs.Counts.{new_count, counts_fit}
use Rattle.mended.specs.Changes.{changed, changed_key, changed_count, changed_keys, changed_counts, change_list}
use Rattle.mended.specs.Listed.{Listed, Changed, ListsChanges}
use Rattle.mended.proofs.Mended.{ArcsPass, mended-label}
use Rattle.mended.proofs.Exact.{mended, mended-graph, mended-arcs}

-- ---- nothing is gathered

pub gather-empty : (f : ℕ → Option ℕ) (n : ℕ) → ((i : ℕ) → i < n → f i ≡ none) → gather f n ≡ []
unfolding gather
gather-empty f zero h = refl
gather-empty f (suc n) h = rw (h n (omega arith), gather-empty f n (λ i l. h i (omega arith)))

pub rows_empty : (f : ℕ → ℕ → Option ℕ) (columns n : ℕ) → ((i j : ℕ) → i < n → j < columns → f i j ≡ none) → gather_rows f columns n ≡ []
unfolding gather_rows
rows_empty f columns zero h = refl
rows_empty f columns (suc n) h = rw (rows_empty f columns n (λ i j l m. h i j (omega arith) m), gather-empty (f n) columns (λ j m. h n j (omega arith) m))

-- ---- the words of the list

module _ (ks vs : List ℕ) where
  abbrev list : List ℕ
  list = length ks ∷ (ks ++ vs)

  list-key : (i : ℕ) → i < length ks → get_or list (1 + i) 0 ≡ get_or ks i 0
  list-key i l = let q : 1 + i ≡ suc i = omega arith in rw q (get_or-append ks vs 0 i l)

  list-value : (i : ℕ) → get_or list (1 + length ks + i) 0 ≡ get_or vs i 0
  list-value i = let q : 1 + length ks + i ≡ suc (length ks + i) = omega arith in rw q (get_or-append-add ks vs i 0)

  listed↔ : (k v : ℕ) → Listed list k v ↔ Stands ks vs k v
  listed↔ k v = (
    λ s. record { index = s.index; below = s.below; key = sym (list-key s.index s.below) ∙ s.key; value = sym (list-value s.index) ∙ s.value },
    λ s. record { index = s.index; below = s.below; key = list-key s.index s.below ∙ s.key; value = list-value s.index ∙ s.value },
  )

module _ (N : PetriNet) (sheet : List ℕ) where
  -- ---- one count

  changed-out : (n p : ℕ) → changed N sheet n p ≡ true → new_count N (graph N sheet) n p ≡ count_at N sheet n p → ⊥
  unfolding changed
  changed-out n p h = eqb-false _ _ (not-true _ h)

  changed-in : (n p : ℕ) → (new_count N (graph N sheet) n p ≡ count_at N sheet n p → ⊥) → changed N sheet n p ≡ true
  unfolding changed
  changed-in n p h = ap not (ne_eqb _ _ h)

  unchanged : (n p : ℕ) → new_count N (graph N sheet) n p ≡ count_at N sheet n p → changed N sheet n p ≡ false
  unfolding changed
  unchanged n p h = ap not (eq-eqb _ _ h)

  together : (n p : ℕ) → found (changed_key N sheet n p) ≡ found (changed_count N sheet n p)
  unfolding changed_key changed_count
  together n p = found-when (changed N sheet n p) _ ∙ sym (found-when (changed N sheet n p) _)

  -- ---- all of them

  pub paired : length (changed_keys N sheet) ≡ length (changed_counts N sheet)
  unfolding changed_keys changed_counts
  paired = rows-paired (changed_key N sheet) (changed_count N sheet) together N.places (node_count sheet)

  key-at : (n p k : ℕ) → changed_key N sheet n p ≡ some k → k ≡ 0 + n * N.places + p
  unfolding changed_key
  key-at n p k e = omega (arith, (when-some (changed N sheet n p) (n * N.places + p) k e).1)

  rising : (i j : ℕ) → i < j → j < length (changed_keys N sheet) → get_or (changed_keys N sheet) i 0 < get_or (changed_keys N sheet) j 0
  unfolding changed_keys
  rising = (rows-between (changed_key N sheet) 0 N.places (node_count sheet) key-at).rising

  -- no more than there are counts
  pub changes-short : get_or (change_list N sheet) 0 0 ≤ node_count sheet * N.places
  unfolding change_list changed_keys
  changes-short =
      let b = rows-between (changed_key N sheet) 0 N.places (node_count sheet) key-at in
      pigeonhole (λ i. get_or (changed_keys N sheet) i 0) (length (changed_keys N sheet)) (node_count sheet * N.places)
      (λ i l. omega (arith, b.below i l)) (λ i j l m e. omega (arith, b.rising i j l m))

  -- with what another sheet holds, where that is the new count
  module _ (mended : List ℕ) (is : (n p : ℕ) → n < node_count sheet → p < N.places → count_at N mended n p ≡ new_count N (graph N sheet) n p) where
    stands→changed : (k v : ℕ) → Stands (changed_keys N sheet) (changed_counts N sheet) k v → Changed N sheet mended k v
    unfolding changed_keys changed_counts changed_key changed_count
    stands→changed k v s =
        let (n, p, l, m, a, b) = rows_out (changed_key N sheet) (changed_count N sheet) together N.places (node_count sheet) k v s in
        let (h, e) = when-some (changed N sheet n p) (n * N.places + p) k a in
        let (g, f) = when-some (changed N sheet n p) (new_count N (graph N sheet) n p) v b in
        record { node = n; place = p; is_node = l; is_place = m; key = sym e; new = is n p l m ∙ f; unlike = λ q. changed-out n p h (f ∙ q) }

    changed→stands : (k v : ℕ) → Changed N sheet mended k v → Stands (changed_keys N sheet) (changed_counts N sheet) k v
    unfolding changed_keys changed_counts changed_key changed_count
    changed→stands k v c =
        let f : new_count N (graph N sheet) c.node c.place ≡ v = sym (is c.node c.place c.is_node c.is_place) ∙ c.new in
        let h = changed-in c.node c.place (λ q. c.unlike (sym f ∙ q)) in
        rows_in (changed_key N sheet) (changed_count N sheet) together N.places (node_count sheet) k v c.node c.place c.is_node c.is_place
        (when-hit _ _ h ∙ ap some (sym c.key)) (when-hit _ _ h ∙ ap some f)

    pub lists-changes : ListsChanges N sheet mended (change_list N sheet)
    unfolding change_list
    lists-changes = record {
      whole = omega (arith, length-append (changed_keys N sheet) (changed_counts N sheet), paired);
      rising = λ i j l m.
          rw (list-key (changed_keys N sheet) (changed_counts N sheet) i (omega arith), list-key (changed_keys N sheet) (changed_counts N sheet) j m) (rising i j l m);
      exactly = λ k v.
          let (f, g) = listed↔ (changed_keys N sheet) (changed_counts N sheet) k v in
          (λ s. stands→changed k v (f s), λ c. g (changed→stands k v c));
    }

  pub none-changed : ((n p : ℕ) → n < node_count sheet → p < N.places → new_count N (graph N sheet) n p ≡ count_at N sheet n p) → change_list N sheet ≡ 0 ∷ []
  unfolding change_list changed_keys changed_counts changed_key changed_count
  none-changed h =
      rw (
        rows_empty (changed_key N sheet) N.places (node_count sheet) (λ n p l m. when-miss _ _ (unchanged n p (h n p l m))),
        rows_empty (changed_count N sheet) N.places (node_count sheet) (λ n p l m. when-miss _ _ (unchanged n p (h n p l m))),
      )

-- ---- the mended words' counts are the new ones

module _ (N : PetriNet) (T : 0 < N.transitions) (P : 0 < N.places) (sheet : List ℕ) (w : ArcsHold N sheet) (g : ArcsPass N (graph N sheet)) (h : counts_fit N (graph N sheet) ≡ true) where
  pub mended-count : (n p : ℕ) → n < node_count sheet → p < N.places → count_at N (mended N sheet) n p ≡ new_count N (graph N sheet) n p
  unfolding new_count
  mended-count n p l m =
      sym (marking-at N (mended N sheet) n p (rw (mended-arcs N T P sheet w g h).nodes at l) m)
      ∙ ap (λ (X : Automaton). get_or (X.label n) p 0) (mended-graph N T P sheet w g h)
      ∙ ap (λ (x : List ℕ). get_or x p 0) (mended-label N (graph N sheet) n l)

  pub mended-lists : ListsChanges N sheet (mended N sheet) (change_list N sheet)
  mended-lists = lists-changes N sheet (mended N sheet) mended-count
