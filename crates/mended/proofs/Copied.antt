-- The entries of the arcs in the mended words are those of the given ones: code may copy them.
use Rattle.scan.proofs.Basics.{ℕ, suc, ◌+◌, ◌*◌, ◌≤◌, ◌<◌, arith, ◌≡◌, refl, sym, ap, ◌∙◌, inl, inr, ◌↔◌, Bool, true, false, not, ltb, some, List, [], ◌∷◌, ◌++◌, length, get_or, take, drop}
use Rattle.scan.proofs.Basics.{length-append}
use native.Mathlib.Nat.{mod-lt, div-add-mod'}
use mathlib.Core.List.{append-nil}
use lib.ListN.{get_or-append}
use lib.Seq.{get_or-append-add, take_at, drop_at}
use Rattle.scan.proofs.Tests.{ltb-true, ltb-false, lt-ltb, not-true, not-false, by_test, true-false, not-true→false}
use Rattle.scan.specs.Scan.{tabulate, least}
use Rattle.scan.proofs.First.{when-miss}
use Rattle.scan.proofs.Count.{count-prefix}
use Rattle.scan.proofs.Least.{least-le, least-hit, least-low}
use Rattle.scan.proofs.Tabulate.{tabulate-at, tabulate-length}
use Rattle.table.specs.Table.{key_at, value_at, Rising}
use Rattle.automaton.specs.Automaton.{Automaton}
use Rattle.sequential.specs.Petri.{PetriNet}
use Rattle.sequential.specs.Words.{node_count, entry_count, entry_key, entry_value, arc_keys, graph, is_arc, arc_node, arc_transition}
use Rattle.sequential.specs.Check.{arc_count}
use Rattle.sequential.specs.Known.{ArcsHold}
use Rattle.sequential.proofs.Entries.{arc-entry, entry-arc, entry-node, key-rises}
use Rattle.encoding.specs.Encoding.{gather_rows, key_of_arc, held, key_of_count, value_of_count, keys, values, encode}
use Rattle.encoding.proofs.Encoding.{Says}
use Rattle.encoding.proofs.Entries.{Entered, same-words}
use Rattle.encoding.proofs.Encoded.{encoded-nodes, encoded-entries, encoded-length, encoded-says, says-encoded, encoded-rising}
use Rattle.mended.specs.Counts.{mended_graph}
use Rattle.mended.proofs.Bare.{bare}
use Rattle.mended.proofs.Changes.{rows_empty}

-- the given entries of the arcs, keys and values; behind them the counts that are not 0, node by node
unfoldable pub copied : PetriNet → List ℕ → List ℕ
copied N sheet =
    let arcs = arc_count N sheet in
    let M = mended_graph N (graph N sheet) in
    let keys = gather_rows (key_of_count N M) N.places (node_count sheet) in
    let counts = gather_rows (value_of_count N M) N.places (node_count sheet) in
    node_count sheet ∷ (arcs + length keys) ∷ ((tabulate (entry_key sheet) arcs ++ keys) ++ (tabulate (entry_value sheet) arcs ++ counts))

-- keys and values behind keys and values
assemble : (nodes : ℕ) (ks vs ks' vs' cs ds : List ℕ) (a : ℕ) → ks ≡ ks' → vs ≡ vs' → length ks' ≡ a
    → ◌≡◌ {A = List ℕ} (nodes ∷ length (ks ++ cs) ∷ ((ks ++ cs) ++ (vs ++ ds))) (nodes ∷ (a + length cs) ∷ ((ks' ++ cs) ++ (vs' ++ ds)))
assemble nodes ks vs ks' vs' cs ds a p q e = rw (p, q, length-append ks' cs, e)

module _ (N : PetriNet) (sheet : List ℕ) (T : 0 < N.transitions) (w : ArcsHold N sheet) where
  -- ---- the arcs come first

  unfoldable no_arc : ℕ → Bool
  no_arc i = not (is_arc N sheet i)

  -- an entry that is an arc has none before it that is not
  down : (i j : ℕ) → i ≤ j → j < entry_count sheet → is_arc N sheet j ≡ true → is_arc N sheet i ≡ true
  unfolding is_arc
  down i j h l e =
      by_test (ltb i j) (λ q. lt-ltb (entry_key sheet i) (arc_keys N sheet) (omega (arith, key-rises N sheet w i j (ltb-true i j q) l, ltb-true (entry_key sheet j) (arc_keys N sheet) e)))
      (λ q. let z : i ≡ j = omega (arith, ltb-false i j q) in rw z e)

  abbrev first_count : ℕ
  first_count = least no_arc (entry_count sheet)

  before-counts : (i : ℕ) → i < first_count → is_arc N sheet i ≡ true
  unfolding no_arc
  before-counts i l = not-false _ (least-low no_arc (entry_count sheet) i l)

  from-counts : (i : ℕ) → first_count ≤ i → i < entry_count sheet → is_arc N sheet i ≡ false
  unfolding no_arc
  from-counts i h l =
      not-true→false _ (λ e. true-false _ (down first_count i h l e) (not-true _ (least-hit no_arc (entry_count sheet) (omega arith))))

  arcs-first : arc_count N sheet ≡ first_count
  unfolding arc_count
  arcs-first = count-prefix (is_arc N sheet) (entry_count sheet) first_count (least-le no_arc (entry_count sheet)) before-counts from-counts

  pub arc-index : (i : ℕ) → i < entry_count sheet → (is_arc N sheet i ≡ true) ↔ (i < arc_count N sheet)
  arc-index i l = (
    λ e. by_test (ltb i (arc_count N sheet)) (λ q. ltb-true _ _ q) (λ q. true-false _ e (from-counts i (rw arcs-first at (ltb-false i (arc_count N sheet) q)) l)),
    λ h. before-counts i (rw arcs-first at h),
  )

  pub arcs-within : arc_count N sheet ≤ entry_count sheet
  arcs-within = rw arcs-first (least-le no_arc (entry_count sheet))

  -- ---- the arcs' entries alone, as a sheet

  abbrev B : Automaton
  B = bare (graph N sheet)

  abbrev ks : List ℕ
  ks = tabulate (entry_key sheet) (arc_count N sheet)

  abbrev vs : List ℕ
  vs = tabulate (entry_value sheet) (arc_count N sheet)

  abbrev x : List ℕ
  x = node_count sheet ∷ arc_count N sheet ∷ (ks ++ vs)

  ks-length : length ks ≡ arc_count N sheet
  ks-length = tabulate-length (entry_key sheet) (arc_count N sheet)

  x-nodes : node_count x ≡ node_count sheet
  x-nodes = refl

  x-entries : entry_count x ≡ arc_count N sheet
  x-entries = refl

  x-length : length x ≡ 2 + 2 * entry_count x
  x-length = rw x-entries (omega (arith, length-append ks vs, ks-length, tabulate-length (entry_value sheet) (arc_count N sheet)))

  x-key : (i : ℕ) → i < arc_count N sheet → entry_key x i ≡ entry_key sheet i
  unfolding entry_key key_at
  x-key i l =
      let q : 2 + i ≡ suc (suc i) = omega arith in
      ap (λ (j : ℕ). get_or x j 0) q ∙ get_or-append ks vs 0 i (rw ks-length l) ∙ tabulate-at (entry_key sheet) 0 (arc_count N sheet) i l

  x-value : (i : ℕ) → i < arc_count N sheet → entry_value x i ≡ entry_value sheet i
  unfolding entry_value value_at
  x-value i l =
      let q : 2 + entry_count x + i ≡ suc (suc (length ks + i)) = rw (x-entries, ks-length) (omega arith) in
      ap (λ (j : ℕ). get_or x j 0) q ∙ get_or-append-add ks vs i 0 ∙ tabulate-at (entry_value sheet) 0 (arc_count N sheet) i l

  x-rising : Rising x 2 (entry_count x)
  unfolding entry_key
  x-rising = record { above = λ i l. above i (rw x-entries at l) }
    where
      above : (i : ℕ) → i + 1 < arc_count N sheet → entry_key x i < entry_key x (i + 1)
      above i l = rw (x-key i (omega arith), x-key (i + 1) l) (key-rises N sheet w i (i + 1) (omega arith) (omega (arith, arcs-within)))

  -- ---- it says the arcs, and nothing else

  entered-said : (k v : ℕ) → Entered x k v → Says N B k v
  entered-said k v e = go (rw x-entries at e.entry) e.key e.value
    where
      i : ℕ
      i = e.index

      go : i < arc_count N sheet → entry_key x i ≡ k → entry_value x i ≡ v → Says N B k v
      go l p q =
          let m : i < entry_count sheet = omega (arith, arcs-within) in
          let h = (arc-index i m).1 l in
          inl (record {
            node = arc_node N sheet i;
            transition = arc_transition N sheet i;
            is_node = unfold bare in (entry-node N sheet T w i m h);
            is-transition = unfold arc_transition in (mod-lt (entry_key sheet i) T);
            key = sym p ∙ x-key i l ∙ unfold arc_node arc_transition in (sym (div-add-mod' (entry_key sheet i) N.transitions));
            arc = unfold bare in (entry-arc N sheet T w i m h ∙ ap some (sym (x-value i l) ∙ q));
          })

  said-entered : (k v : ℕ) → Says N B k v → Entered x k v
  unfolding bare
  said-entered k v (inl s) =
      let (i, e) = arc-entry N sheet T w s.node s.transition v s.arc in
      let l = (arc-index i e.entry).0 e.arc in
      let q : entry_key sheet i ≡ k
      = unfold arc_node arc_transition in (sym (div-add-mod' (entry_key sheet i) N.transitions) ∙ rw (e.node, e.transition) (sym s.key)) in
      record { index = i; entry = rw x-entries l; key = x-key i l ∙ q; value = x-value i l ∙ e.target }
  said-entered k v (inr s) = let z : 0 ≡ v = unfold held in s.value in absurd (omega (arith, s.positive))

  encoded-is : encode N B ≡ x
  encoded-is =
      same-words (encode N B) x (encoded-rising N B) x-rising (λ k v e. said-entered k v (encoded-says N B k v e)) (λ k v e. says-encoded N B k v (entered-said k v e))
      (encoded-nodes N B ∙ unfold bare in refl ∙ sym x-nodes) (encoded-length N B) x-length

  -- ---- so the arcs' keys and values are those of the sheet

  no-count-keys : gather_rows (key_of_count N B) N.places B.nodes ≡ []
  unfolding key_of_count held bare
  no-count-keys = rows_empty (key_of_count N B) N.places B.nodes (λ n p l m. when-miss (ltb 0 0) _ refl)

  no_counts : gather_rows (value_of_count N B) N.places B.nodes ≡ []
  unfolding value_of_count held bare
  no_counts = rows_empty (value_of_count N B) N.places B.nodes (λ n p l m. when-miss (ltb 0 0) _ refl)

  bare-keys : keys N B ≡ gather_rows (key_of_arc N B) N.transitions B.nodes
  unfolding keys
  bare-keys = rw no-count-keys (append-nil _)

  bare-values : values N B ≡ gather_rows B.arc N.transitions B.nodes
  unfolding values
  bare-values = rw no_counts (append-nil _)

  keys-many : length (keys N B) ≡ arc_count N sheet
  keys-many = sym (encoded-entries N B) ∙ ap entry_count encoded-is ∙ x-entries

  both-are : keys N B ++ values N B ≡ ks ++ vs
  unfolding encode
  both-are = ap (drop 2) encoded-is

  keys_are : keys N B ≡ ks
  keys_are =
      sym (take_at (keys N B) (values N B) (arc_count N sheet) keys-many) ∙ ap (take (arc_count N sheet)) both-are ∙ take_at ks vs (arc_count N sheet) ks-length

  values-are : values N B ≡ vs
  values-are =
      sym (drop_at (keys N B) (values N B) (arc_count N sheet) keys-many) ∙ ap (drop (arc_count N sheet)) both-are ∙ drop_at ks vs (arc_count N sheet) ks-length

  -- ---- the mended sheet

  abbrev M : Automaton
  M = mended_graph N (graph N sheet)

  arc-keys-copied : gather_rows (key_of_arc N M) N.transitions M.nodes ≡ ks
  unfolding mended_graph bare key_of_arc
  arc-keys-copied = sym bare-keys ∙ keys_are

  targets-copied : gather_rows M.arc N.transitions M.nodes ≡ vs
  unfolding mended_graph bare
  targets-copied = sym bare-values ∙ values-are

  pub mended-copied : encode N M ≡ copied N sheet
  unfolding encode keys values copied
  mended-copied =
      assemble M.nodes (gather_rows (key_of_arc N M) N.transitions M.nodes) (gather_rows M.arc N.transitions M.nodes) ks vs
      (gather_rows (key_of_count N M) N.places M.nodes) (gather_rows (value_of_count N M) N.places M.nodes) (arc_count N sheet)
      arc-keys-copied targets-copied ks-length ∙ unfold mended_graph in refl
