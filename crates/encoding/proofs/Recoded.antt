-- Encoding what is decoded: a sheet that passes 6 to 9 is the words of its own graph.
use Rattle.scan.proofs.Basics.{ℕ, ◌+◌, ◌-◌, ◌*◌, ◌/◌, ◌%◌, ◌≤◌, ◌<◌, arith, ◌≡◌, refl, sym, ◌∙◌, inl, inr, true, ltb, Option, none, some, option_map, List}
use native.Mathlib.Nat.{mul-add, mod-lt, div-add-mod', div-lt_iff_lt-mul}
use Rattle.scan.proofs.Tests.{ltb-false, by_test}
use Rattle.table.proofs.Table.{entry-some}
use Rattle.sequential.specs.Petri.{PetriNet}
use Rattle.sequential.specs.Words.{node_count, entry_count, entry_key, entry_value, entry_with_key, arc_keys, key_limit, graph, is_arc, arc_node, arc_transition}
use Rattle.sequential.specs.Known.{WordsHold}
use Rattle.sequential.proofs.Words.{words-rise}
use Rattle.sequential.proofs.Entries.{arc-entry, entry-arc, entry-node, graph-closed, count_most, marking-at}
use Rattle.encoding.specs.Encoding.{held, encode, Encodable}
use Rattle.encoding.proofs.Encoding.{ArcAt, CountAt, Says}
use Rattle.encoding.proofs.Entries.{Entered, look-up-entered, same-words}
use Rattle.encoding.proofs.Encoded.{encoded-nodes, encoded-entries, encoded-length, encoded-says, says-encoded, encoded-rising}
use Rattle.encoding.proofs.Reading.{held-inside, value_there, graph-confined, graph-places}
use Rattle.scan.specs.Scan.{found_or}

module _ (N : PetriNet) (sheet : List ℕ) (T : 0 < N.transitions) (P : 0 < N.places) (w : WordsHold N sheet) where
  -- ---- an entry is said by the graph

  arc-said : (i : ℕ) → i < entry_count sheet → is_arc N sheet i ≡ true → ArcAt N (graph N sheet) (entry_key sheet i) (entry_value sheet i)
  arc-said i l h = record {
    node = arc_node N sheet i;
    transition = arc_transition N sheet i;
    is_node = entry-node N sheet T w.arcs i l h;
    is-transition = unfold arc_transition in (mod-lt (entry_key sheet i) T);
    key = unfold arc_node arc_transition in (sym (div-add-mod' (entry_key sheet i) N.transitions));
    arc = entry-arc N sheet T w.arcs i l h;
  }

  count-said : (i : ℕ) → i < entry_count sheet → arc_keys N sheet ≤ entry_key sheet i → CountAt N (graph N sheet) (entry_key sheet i) (entry_value sheet i)
  count-said i l h = record {
    node = j / N.places;
    place = j % N.places;
    is_node = is_node;
    is_place = mod-lt j P;
    key = key;
    value = held-inside N sheet (j / N.places) (j % N.places) is_node (mod-lt j P) ∙ rw (← key) (value_there N sheet (entry_with_key sheet (entry_key sheet i)) (entry_value sheet i) found);
    positive = (w.values i l).some h;
  }
    where
      j : ℕ
      j = entry_key sheet i - node_count sheet * N.transitions

      above : node_count sheet * N.transitions ≤ entry_key sheet i
      above = unfold arc_keys in h

      is_node : j / N.places < node_count sheet
      is_node =
          let q : entry_key sheet i < node_count sheet * (N.transitions + N.places) = unfold key_limit entry_key in (w.arcs.keys i l).low in
          (div-lt_iff_lt-mul P).1 (omega (arith, above, mul-add (node_count sheet) N.transitions N.places))

      key : entry_key sheet i ≡ node_count sheet * N.transitions + j / N.places * N.places + j % N.places
      key = omega (arith, above, div-add-mod' j N.places)

      found : option_map (entry_value sheet) (entry_with_key sheet (entry_key sheet i)) ≡ some (entry_value sheet i)
      found = look-up-entered sheet (words-rise N sheet w.arcs) (entry_key sheet i) (entry_value sheet i) (record { index = i; entry = l; key = refl; value = refl })

  said : (i : ℕ) → i < entry_count sheet → Says N (graph N sheet) (entry_key sheet i) (entry_value sheet i)
  unfolding is_arc
  said i l = by_test (ltb (entry_key sheet i) (arc_keys N sheet)) (λ q. inl (arc-said i l q)) (λ q. inr (count-said i l (ltb-false _ _ q)))

  entered-said : (k v : ℕ) → Entered sheet k v → Says N (graph N sheet) k v
  entered-said k v e = rw (e.key, e.value) at (said e.index e.entry)

  -- ---- what the graph says is an entry

  said-entered : (k v : ℕ) → Says N (graph N sheet) k v → Entered sheet k v
  said-entered k v (inl a) =
      let (i, e) = arc-entry N sheet T w.arcs a.node a.transition v a.arc in
      let q : entry_key sheet i ≡ k
      = unfold arc_node arc_transition in (sym (div-add-mod' (entry_key sheet i) N.transitions) ∙ rw (e.node, e.transition) (sym a.key)) in
      record { index = i; entry = e.entry; key = q; value = e.target }
  said-entered k v (inr c) = go (entry_with_key sheet k) refl (rw c.key (sym (held-inside N sheet c.node c.place c.is_node c.is_place) ∙ c.value))
    where
      go : (o : Option ℕ) → entry_with_key sheet k ≡ o → found_or 0 (entry_value sheet) o ≡ v → Entered sheet k v
      go none e q = absurd (omega (arith, c.positive))
      go (some i) e q =
          let (l, h) = entry-some sheet 2 (entry_count sheet) k i (unfold entry_with_key in e) in
          record { index = i; entry = l; key = unfold entry_key in h; value = q }

  -- ---- the words

  pub encode_decode : encode N (graph N sheet) ≡ sheet
  encode_decode =
      same-words (encode N (graph N sheet)) sheet (encoded-rising N (graph N sheet)) (words-rise N sheet w.arcs)
      (λ k v e. said-entered k v (encoded-says N (graph N sheet) k v e)) (λ k v e. says-encoded N (graph N sheet) k v (entered-said k v e))
      (encoded-nodes N (graph N sheet)) (encoded-length N (graph N sheet)) w.arcs.shape.whole

  pub decoded-encodable : Encodable N (graph N sheet)
  decoded-encodable = record {
    transitions = refl;
    few_nodes = w.arcs.shape.few_nodes;
    few_entries = rw (← encoded-entries N (graph N sheet), encode_decode) w.arcs.shape.few_entries;
    closed = graph-closed N sheet T w.arcs;
    confined = graph-confined N sheet;
    places = graph-places N sheet;
    most = λ n p l m. unfold held in (rw (marking-at N sheet n p l m) (count_most N sheet w n p));
  }
