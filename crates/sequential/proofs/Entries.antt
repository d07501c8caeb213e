-- The entries of arcs and the arcs of the graph are the same thing, and counts are in range.
use Rattle.scan.proofs.Basics.{ℕ, ◌+◌, ◌*◌, ◌/◌, ◌%◌, ◌≤◌, ◌<◌, arith, ◌≡◌, refl, sym, ap, subst, ◌∙◌, Bool, true, false, cond, ◌&&◌, ltb, Option, none, some, option_map, List, get_or}
use native.Mathlib.Nat.{div-lt_iff_lt-mul, mul-add-div_right, mul-add-mod_self_right, div-eq_of_lt, mod-eq_of_lt, mod-lt, add-zero, mul-le-mul_right, div-add-mod'}
use Rattle.scan.proofs.Tests.{ltb-true, lt-ltb, le-ltb, by_test, by_less}
use Rattle.scan.specs.Scan.{tabulate, found_or}
use Rattle.scan.proofs.First.{none-some}
use Rattle.scan.proofs.Tabulate.{tabulate-at}
use Rattle.table.specs.Table.{key_at}
use Rattle.table.proofs.Table.{rising, entry_at, entry-some}
use Rattle.automaton.specs.Automaton.{Closed}
use Rattle.refusal.specs.Limits.{most_count}
use Rattle.sequential.specs.Petri.{PetriNet}
use Rattle.sequential.specs.Words.{node_count, entry_count, entry_key, entry_value, entry_with_key, arc_keys, arc_entry, arc, count_at, marking, graph, is_arc, arc_node, arc_transition}
use Rattle.sequential.specs.Known.{ArcsHold, WordsHold}
use Rattle.sequential.proofs.Words.{words-rise}

-- ---- rows

pub row_lt : (n d x m : ℕ) → x < d → n < m → n * d + x < m * d
row_lt n d x m l h = omega (arith, mul-le-mul_right d h, l)

pub row-div : (n d x : ℕ) → x < d → (n * d + x) / d ≡ n
row-div n d x l = mul-add-div_right (omega arith) n x ∙ rw (div-eq_of_lt l) (add-zero n)

pub row-mod : (n d x : ℕ) → x < d → (n * d + x) % d ≡ x
row-mod n d x l = mul-add-mod_self_right n d x ∙ mod-eq_of_lt l

-- the keys of all rows before row n, for the most nodes and the most places or transitions
pub rows_few : (n d : ℕ) → n ≤ 128 → d ≤ 32 → n * d ≤ 4096
rows_few n d l m = omega (arith, mul-le-mul_right d l)

-- what an entry says: from node n, t leads to m
pub record ArcEntry (N : PetriNet) (sheet : List ℕ) (i n t m : ℕ) : Type 0 where
  pub entry : i < entry_count sheet
  pub arc : is_arc N sheet i ≡ true
  pub node : arc_node N sheet i ≡ n
  pub transition : arc_transition N sheet i ≡ t
  pub target : entry_value sheet i ≡ m

-- what an entry says at which an arc is looked up
pub entry-told : (N : PetriNet) (sheet : List ℕ) (n t i : ℕ) → arc_entry N sheet n t ≡ some i → ArcEntry N sheet i n t (entry_value sheet i)
unfolding arc_entry
entry-told N sheet n t i e = go (ltb n (node_count sheet)) refl (ltb t N.transitions) refl e
  where
    go : (a : Bool) → ltb n (node_count sheet) ≡ a → (b : Bool) → ltb t N.transitions ≡ b → cond (a && b) (entry_with_key sheet (n * N.transitions + t)) none ≡ some i
        → ArcEntry N sheet i n t (entry_value sheet i)
    go true p true q h =
        let (l, k) = entry-some sheet 2 (entry_count sheet) (n * N.transitions + t) i (unfold entry_with_key in h) in
        let lt : t < N.transitions = ltb-true t N.transitions q in
        let ln : n < node_count sheet = ltb-true n (node_count sheet) p in
        record {
          entry = l;
          arc = unfold is_arc arc_keys entry_key in (lt-ltb (key_at sheet 2 i) (node_count sheet * N.transitions) (rw k (row_lt n N.transitions t (node_count sheet) lt ln)));
          node = unfold arc_node entry_key in (rw k (row-div n N.transitions t lt));
          transition = unfold arc_transition entry_key in (rw k (row-mod n N.transitions t lt));
          target = refl;
        }
    go true p false q h = none-some none i refl h
    go false p b q h = none-some none i refl h

pub entry_of : (N : PetriNet) (sheet : List ℕ) (n t m : ℕ) → arc N sheet n t ≡ some m → (i : ℕ) × (arc_entry N sheet n t ≡ some i) × (entry_value sheet i ≡ m)
unfolding arc
entry_of N sheet n t m e = go (arc_entry N sheet n t) refl e
  where
    go : (o : Option ℕ) → arc_entry N sheet n t ≡ o → option_map (entry_value sheet) o ≡ some m → (i : ℕ) × (arc_entry N sheet n t ≡ some i) × (entry_value sheet i ≡ m)
    go none q e = none-some none m refl e
    go (some i) q e = (i, q, cc)

pub key-rises : (N : PetriNet) (sheet : List ℕ) → ArcsHold N sheet → (i j : ℕ) → i < j → j < entry_count sheet → entry_key sheet i < entry_key sheet j
unfolding entry_key
key-rises N sheet w i j h l = rising sheet 2 (entry_count sheet) (words-rise N sheet w) i j h l

module _ (N : PetriNet) (sheet : List ℕ) (T : 0 < N.transitions) (w : ArcsHold N sheet) where
  -- an arc of the graph stands at an entry
  pub arc-entry : (n t m : ℕ) → arc N sheet n t ≡ some m → (i : ℕ) × ArcEntry N sheet i n t m
  arc-entry n t m e = let (i, q, v) = entry_of N sheet n t m e in (i, subst (λ (x : ℕ). ArcEntry N sheet i n t x) v (entry-told N sheet n t i q))

  -- an entry of an arc is an arc of the graph
  pub entry-arc : (i : ℕ) → i < entry_count sheet → is_arc N sheet i ≡ true → arc N sheet (arc_node N sheet i) (arc_transition N sheet i) ≡ some (entry_value sheet i)
  unfolding arc arc_entry is_arc arc_node arc_transition entry_with_key arc_keys entry_key
  entry-arc i l h =
      let k : key_at sheet 2 i < node_count sheet * N.transitions = ltb-true _ _ h in
      let ln : key_at sheet 2 i / N.transitions < node_count sheet = (div-lt_iff_lt-mul T).1 k in
      let lt : key_at sheet 2 i % N.transitions < N.transitions = mod-lt (key_at sheet 2 i) T in
      rw (lt-ltb _ _ ln, lt-ltb _ _ lt, entry_at sheet 2 (entry_count sheet) (words-rise N sheet w) i _ l (sym (div-add-mod' (key_at sheet 2 i) N.transitions)))

  -- an entry of an arc: its node and its target are nodes, its transition a transition
  pub entry-node : (i : ℕ) → i < entry_count sheet → is_arc N sheet i ≡ true → arc_node N sheet i < node_count sheet
  unfolding is_arc arc_node arc_keys
  entry-node i l h = (div-lt_iff_lt-mul T).1 (ltb-true _ _ h)

  pub entry-target : (i : ℕ) → i < entry_count sheet → is_arc N sheet i ≡ true → entry_value sheet i < node_count sheet
  unfolding is_arc
  entry-target i l h = w.targets i l (ltb-true _ _ h)

  -- the keys rise, so after a key of a count come only counts
  pub counts-follow : (i : ℕ) → arc_keys N sheet ≤ entry_key sheet i → (j : ℕ) → i ≤ j → j < entry_count sheet → is_arc N sheet j ≡ false
  unfolding is_arc entry_key
  counts-follow i h j l m =
      by_less i j (λ p. le-ltb (key_at sheet 2 j) (arc_keys N sheet) (let z = rising sheet 2 (entry_count sheet) (words-rise N sheet w) i j p m in omega arith))
      (λ p. let e : j ≡ i = omega arith in rw e (le-ltb _ _ h))

  -- ---- the graph is closed

  arc-outside : (n t : ℕ) → N.transitions ≤ t → arc N sheet n t ≡ none
  unfolding arc arc_entry
  arc-outside n t l = by_test (ltb n (node_count sheet)) (λ e. rw (e, le-ltb t N.transitions l)) (λ e. rw e)

  pub graph-closed : Closed (graph N sheet)
  graph-closed = record {
    root = w.shape.some_node;
    lands = λ n t m l e. let (i, a) = arc-entry n t m e in rw (← a.target) (entry-target i a.entry a.arc);
    bounded = arc-outside;
  }

-- ---- counts

module _ (N : PetriNet) (sheet : List ℕ) (w : WordsHold N sheet) where
  pub count_most : (n p : ℕ) → count_at N sheet n p ≤ most_count
  unfolding count_at
  count_most n p = go (ltb n (node_count sheet)) (ltb p N.places) (entry_with_key sheet (arc_keys N sheet + n * N.places + p)) refl
    where
      go : (a b : Bool) (o : Option ℕ) → entry_with_key sheet (arc_keys N sheet + n * N.places + p) ≡ o → cond (a && b) (found_or 0 (entry_value sheet) o) 0 ≤ most_count
      go true true none h = omega arith
      go true true (some i) h =
          let (l, k) = entry-some sheet 2 (entry_count sheet) (arc_keys N sheet + n * N.places + p) i (unfold entry_with_key in h) in
          (w.values i l).most (unfold entry_key in (rw k (omega arith)))
      go true false o h = omega arith
      go false b o h = omega arith

-- ---- markings

pub marking-node : (N : PetriNet) (sheet : List ℕ) (n : ℕ) → n < node_count sheet → marking N sheet n ≡ tabulate (count_at N sheet n) N.places
unfolding marking
marking-node N sheet n l = rw (lt-ltb n (node_count sheet) l)

pub marking-at : (N : PetriNet) (sheet : List ℕ) (n p : ℕ) → n < node_count sheet → p < N.places → get_or (marking N sheet n) p 0 ≡ count_at N sheet n p
marking-at N sheet n p l m = ap (λ (x : List ℕ). get_or x p 0) (marking-node N sheet n l) ∙ tabulate-at (count_at N sheet n) 0 N.places p m
