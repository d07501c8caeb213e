-- The rows of nodes, walked to the end: those of arcs agree as `agree` says, and those of counts as the labels' test does.
use Rattle.scan.proofs.Basics.{ℕ, ◌+◌, ◌*◌, ◌≤◌, ◌<◌, arith, ◌≡◌, refl, sym, ap, ◌∙◌, Bool, true, false, eqb, Option, none, some, option_map, List, length, get_or}
use native.Mathlib.Nat.{mul-le-mul}
use Rattle.scan.proofs.Tests.{lt-ltb, eqb-true, eq-eqb, ne_eqb, true-false, iff→eq}
use Rattle.scan.specs.Scan.{all, tabulate, found_or}
use Rattle.scan.proofs.Every.{all_in, all-out, all-ext}
use Rattle.scan.proofs.Tabulate.{tabulate-at, tabulate-ext}
use Rattle.table.proofs.Table.{entry-some}
use Rattle.automaton.specs.Equivalence.{equal_labels, equal_arcs, agree, same_in}
use Rattle.automaton.proofs.Same.{equal_labels-in, equal_labels-out}
use Rattle.sequential.specs.Petri.{PetriNet, petri_net}
use Rattle.sequential.specs.Words.{node_count, entry_count, entry_key, entry_value, entry_with_key, arc_keys, arc, count_at, graph}
use Rattle.sequential.specs.Known.{WordsHold}
use Rattle.sequential.proofs.Words.{words-rise}
use Rattle.sequential.proofs.Entries.{marking-node, row_lt}
use Rattle.graph.specs.Readable.{Readable, Sizes}
use Rattle.graph.proofs.Readable.{known, words}
use Rattle.graph.proofs.Starts.{arcs-start-is, counts-start-low, counts-start-is}
use Rattle.graph.proofs.Bounds.{bound-low}
use Rattle.encoding.proofs.Reading.{arc-inside}
use Rattle.breadth_first.specs.Along.{class_in}
use Rattle.minimize.specs.Agree.{has_key, key_value, values_agree, keys_agree, Valued, Row, Rows, row_key, row_width, first_entry}
use Rattle.minimize.specs.Leaders.{rows_alike}
use Rattle.minimize.proofs.Agree.{has_within, has-is}

-- ---- the rows of two nodes

labels-all : (f g : ℕ → ℕ) (k : ℕ) → equal_labels (tabulate f k) (tabulate g k) ≡ all (λ p. eqb (f p) (g p)) k
labels-all f g k =
    iff→eq (equal_labels (tabulate f k) (tabulate g k)) (all (λ p. eqb (f p) (g p)) k)
    (λ e. all_in (λ p. eqb (f p) (g p)) k (λ p l. eq-eqb (f p) (g p)
    (sym (tabulate-at f 0 k p l) ∙ ap (λ (x : List ℕ). get_or x p 0) (equal_labels-out (tabulate f k) (tabulate g k) e) ∙ tabulate-at g 0 k p l)))
    (λ e. equal_labels-in (tabulate f k) (tabulate g k) (tabulate-ext f g k (λ p l. eqb-true (f p) (g p) (all-out (λ p. eqb (f p) (g p)) k e p l))))

-- counts are above 0 where they are there
value-test : (sheet : List ℕ) (x y : Option ℕ) → ((i : ℕ) → x ≡ some i → 1 ≤ entry_value sheet i) → ((i : ℕ) → y ≡ some i → 1 ≤ entry_value sheet i)
    → eqb (found_or 0 (entry_value sheet) x) (found_or 0 (entry_value sheet) y) ≡ equal_arcs eqb (option_map (entry_value sheet) x) (option_map (entry_value sheet) y)
value-test sheet none none p q = eq-eqb 0 0 refl
value-test sheet none (some j) p q = ne_eqb 0 (entry_value sheet j) (λ e. let z = q j refl in omega arith)
value-test sheet (some i) none p q = ne_eqb (entry_value sheet i) 0 (λ e. let z = p i refl in omega arith)
value-test sheet (some i) (some j) p q = refl

module _ {net sheet : List ℕ} (readable : Readable net sheet) where
  abbrev N : PetriNet
  N = petri_net net

  w : WordsHold N sheet
  w = words net sheet readable

  k : Sizes net sheet
  k = known net sheet readable

  -- ---- the first key of a row, and where the row starts

  pub first-arc : {n : ℕ} → n < node_count sheet → row_key net sheet false n ≡ n * N.transitions
  unfolding row_key
  first-arc {n} l = arcs-start-is net n (omega (arith, k.few_nodes)) k.some_transition k.few_transitions

  first_count : {n : ℕ} → n < node_count sheet → row_key net sheet true n ≡ node_count sheet * N.transitions + n * N.places
  unfolding row_key
  first_count {n} l =
      counts-start-is net (node_count sheet) n k.few_nodes (omega (arith, k.few_nodes)) k.few_transitions k.few_places

  pub row_low : (counts : Bool) {n : ℕ} → n < node_count sheet → row_key net sheet counts n + row_width net counts ≤ 8224
  unfolding row_width
  row_low true {n} l = unfold row_key in (omega (arith, counts-start-low net (node_count sheet) n, k.few_places))
  row_low false {n} l =
      let few : n ≤ 128 = omega (arith, k.few_nodes) in
      rw (first-arc l) (omega (arith, mul-le-mul few k.few_transitions, k.few_transitions))

  pub start-low : (counts : Bool) (n : ℕ) → first_entry net sheet counts n ≤ 4096
  unfolding first_entry
  start-low counts n = bound-low readable.arcs (row_key net sheet counts n) refl

  -- ---- an arc's target is a node

  pub row-valued : {classes : List ℕ} (counts : Bool) {n : ℕ} → length classes ≡ 128 → n < node_count sheet → (t i : ℕ) → t < row_width net counts
      → has_key sheet i (row_key net sheet counts n + t) ≡ true → Valued sheet classes counts i
  unfolding row_width
  row-valued true long ln t i l h = record { whole = k.long; within = has_within sheet i _ h; target = λ z. true-false true refl z }
  row-valued false {n} long ln t i l h = record {
    whole = k.long;
    within = has_within sheet i _ h;
    target = λ _.
        let low : entry_key sheet i < arc_keys N sheet = unfold entry_key arc_keys in (rw (has-is sheet i _ h, first-arc ln) (row_lt n N.transitions t (node_count sheet) l ln)) in
        omega (arith, (w.values i (has_within sheet i _ h)).target low, k.few_nodes);
  }

  module _ {classes : List ℕ} {counts : Bool} {n m : ℕ} (long : length classes ≡ 128) (ln : n < node_count sheet) (lm : m < node_count sheet) where
    row : {j i : ℕ} → j < node_count sheet → i ≡ first_entry net sheet counts j → Row sheet classes counts (row_width net counts) (row_key net sheet counts j) i
    unfolding first_entry
    row l p = record { low = row_low counts l; start = p; valued = row-valued counts long l }

    pub rows : {i j : ℕ} → i ≡ first_entry net sheet counts n → j ≡ first_entry net sheet counts m
        → Rows sheet classes counts (row_width net counts) (row_key net sheet counts n) (row_key net sheet counts m) i j
    rows p q = record { whole = k.long; rising = words-rise N sheet w.arcs; left = row ln p; right = row lm q }

  -- ---- the rows walked to the end

  pub arc_value : {n t : ℕ} → n < node_count sheet → t < N.transitions → arc N sheet n t ≡ key_value sheet (row_key net sheet false n + t)
  unfolding key_value
  arc_value {n} {t} l m = rw (first-arc l) (arc-inside N sheet n t l m)

  pub count-some : (n p i : ℕ) → n < node_count sheet → entry_with_key sheet (row_key net sheet true n + p) ≡ some i → 1 ≤ entry_value sheet i
  unfolding entry_with_key
  count-some n p i l z =
      let (h, e) = entry-some sheet 2 (entry_count sheet) (row_key net sheet true n + p) i z in
      (w.values i h).some (unfold entry_key arc_keys in (rw (e, first_count l) (omega arith)))

  pub count-value : {n p : ℕ} → n < node_count sheet → p < N.places → count_at N sheet n p ≡ found_or 0 (entry_value sheet) (entry_with_key sheet (row_key net sheet true n + p))
  unfolding count_at arc_keys
  count-value {n} {p} l h = rw (first_count l, lt-ltb n (node_count sheet) l, lt-ltb p N.places h)

  pub walked : (classes : List ℕ) (counts : Bool) {n m : ℕ} → n < node_count sheet → m < node_count sheet
      → all (keys_agree sheet (values_agree classes counts) (row_key net sheet counts n) (row_key net sheet counts m)) (row_width net counts)
      ≡ rows_alike (graph N sheet) counts (class_in classes) n m
  unfolding values_agree keys_agree key_value row_width rows_alike same_in agree
  walked classes false ln lm = all-ext _ _ N.transitions (λ t l. unfold key_value in (rw (arc_value ln l, arc_value lm l)))
  walked classes true {n} {m} ln lm =
      all-ext _ (λ p. eqb (count_at N sheet n p) (count_at N sheet m p)) N.places (λ p l. sym (rw (count-value ln l, count-value lm l)
      (value-test sheet _ _ (λ i z. count-some n p i ln z) (λ i z. count-some m p i lm z))))
      ∙ sym (labels-all (count_at N sheet n) (count_at N sheet m) N.places)
      ∙ rw (marking-node N sheet n ln, marking-node N sheet m lm)
