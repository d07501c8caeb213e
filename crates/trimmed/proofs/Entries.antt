-- The words of the trimmed graph are the kept entries of the given ones, in their old order, each with its new key and value.
use Rattle.scan.proofs.Basics.{ℕ, suc, ◌+◌, ◌*◌, ◌≤◌, ◌<◌, arith, ◌≡◌, refl, sym, ap, ◌∙◌, inl, inr, some, List, length, get_or, length-append}
use lib.ListN.{get_or-append}
use lib.Seq.{get_or-append-add}
use Rattle.scan.specs.Scan.{found, count}
use Rattle.scan.proofs.Count.{count-ext, count-le}
use Rattle.scan.proofs.First.{when-some, when-hit}
use Rattle.table.specs.Table.{key_at, value_at, Rising}
use Rattle.automaton.specs.Automaton.{Automaton}
use Rattle.sequential.specs.Petri.{PetriNet}
use Rattle.sequential.specs.Words.{node_count, entry_count, entry_key, entry_value, graph}
use Rattle.sequential.specs.Known.{WordsHold}
use Rattle.sequential.proofs.Entries.{row_lt}
use Rattle.encoding.specs.Encoding.{gather, keys, encode}
use Rattle.encoding.proofs.Lists.{Between}
use Rattle.encoding.proofs.Gather.{finds, gather-length, gather-out, gather-in}
use Rattle.encoding.proofs.Encoding.{Says, found-when}
use Rattle.encoding.proofs.Encoded.{encoded-nodes, encoded-entries, encoded-length, encoded-says, says-encoded, encoded-rising}
use Rattle.encoding.proofs.Entries.{Entered, same-words}
use Rattle.trimmed.specs.Trim.{trimmed_graph}
use Rattle.trimmed.specs.Entries.{entry_kept, kept_key, kept_value, kept_words}
use Rattle.trimmed.proofs.Gathered.{gather-rising}
use Rattle.trimmed.proofs.Moved.{kept-says, says-kept, keys-rise}

-- ---- how many of the first entries are kept

module _ (N : PetriNet) (sheet : List ℕ) (n : ℕ) where
  pub keys-counted : length (gather (kept_key N sheet) n) ≡ count (entry_kept N sheet) n
  keys-counted = gather-length (kept_key N sheet) n ∙ count-ext (finds (kept_key N sheet)) (entry_kept N sheet) n (λ i l. unfold finds kept_key in (found-when _ _))

  pub values-counted : length (gather (kept_value N sheet) n) ≡ count (entry_kept N sheet) n
  values-counted = gather-length (kept_value N sheet) n ∙ count-ext (finds (kept_value N sheet)) (entry_kept N sheet) n (λ i l. unfold finds kept_value in (found-when _ _))

module _ (N : PetriNet) (sheet : List ℕ) (T : 0 < N.transitions) (P : 0 < N.places) (w : WordsHold N sheet) where
  abbrev M : Automaton
  M = trimmed_graph (graph N sheet)

  -- ---- the words

  abbrev ks : List ℕ
  ks = gather (kept_key N sheet) (entry_count sheet)

  abbrev vs : List ℕ
  vs = gather (kept_value N sheet) (entry_count sheet)

  both : (i : ℕ) → found (kept_key N sheet i) ≡ found (kept_value N sheet i)
  unfolding kept_key kept_value
  both i = found-when (entry_kept N sheet i) _ ∙ sym (found-when (entry_kept N sheet i) _)

  paired : length ks ≡ length vs
  paired = keys-counted N sheet (entry_count sheet) ∙ sym (values-counted N sheet (entry_count sheet))

  key-at : (i : ℕ) → i < length ks → entry_key (kept_words N sheet) i ≡ get_or ks i 0
  unfolding entry_key key_at kept_words
  key-at i l = let q : 2 + i ≡ suc (suc i) = omega arith in rw q (get_or-append ks vs 0 i l)

  value-at : (i : ℕ) → entry_value (kept_words N sheet) i ≡ get_or vs i 0
  unfolding entry_value value_at kept_words
  value-at i = let q : 2 + length ks + i ≡ suc (suc (length ks + i)) = omega arith in rw q (get_or-append-add ks vs i 0)

  words-entries : entry_count (kept_words N sheet) ≡ length ks
  unfolding kept_words
  words-entries = refl

  words-length : length (kept_words N sheet) ≡ 2 + 2 * entry_count (kept_words N sheet)
  unfolding kept_words
  words-length = omega (arith, length-append ks vs, paired)

  words-nodes : node_count (kept_words N sheet) ≡ M.nodes
  unfolding kept_words
  words-nodes = refl

  says-low : (k v : ℕ) → Says N M k v → k < M.nodes * N.transitions + M.nodes * N.places
  says-low k v (inl a) = omega (arith, a.key, row_lt a.node N.transitions a.transition M.nodes a.is-transition a.is_node)
  says-low k v (inr a) = omega (arith, a.key, row_lt a.node N.places a.place M.nodes a.is_place a.is_node)

  between : Between ks 0 (M.nodes * N.transitions + M.nodes * N.places)
  unfolding kept_key
  between =
      gather-rising (kept_key N sheet) (entry_count sheet) _
      (λ i j x y l m a b. let (g, p) = when-some _ _ x a in let (h, q) = when-some _ _ y b in rw (← p, ← q) (keys-rise N sheet T P w i j l m g h))
      (λ i x l a. let (g, p) = when-some _ _ x a in rw (← p) (says-low _ _ (kept-says N sheet T P w i l g)))

  words-rising : Rising (kept_words N sheet) 2 (entry_count (kept_words N sheet))
  unfolding entry_key
  words-rising = record {
    above = λ i l.
        let m : i + 1 < length ks = rw words-entries at l in
        rw (key-at i (omega arith), key-at (i + 1) m) (between.rising i (i + 1) (omega arith) m);
  }

  entry-says : {k v : ℕ} (i : ℕ) → i < entry_count sheet → kept_key N sheet i ≡ some k → kept_value N sheet i ≡ some v → Says N M k v
  unfolding kept_key kept_value
  entry-says {k} {v} i l a b = let (h, p) = when-some _ _ k a in rw (← p, ← (when-some _ _ v b).1) (kept-says N sheet T P w i l h)

  entry-out : (k v : ℕ) → Entered (kept_words N sheet) k v → Says N M k v
  entry-out k v e =
      let l : e.index < length ks = rw words-entries at e.entry in
      let (i, m, a, b) = gather-out (kept_key N sheet) (kept_value N sheet) both (entry_count sheet) k v (record {
        index = e.index;
        below = l;
        key = sym (key-at e.index l) ∙ e.key;
        value = sym (value-at e.index) ∙ e.value;
      }) in
      entry-says i m a b

  entry_in : (k v : ℕ) → Says N M k v → Entered (kept_words N sheet) k v
  unfolding kept_key kept_value
  entry_in k v s =
      let e = says-kept N sheet T P w k v s in
      let h = gather-in (kept_key N sheet) (kept_value N sheet) both (entry_count sheet) k v e.index e.entry
      (when-hit _ _ e.kept ∙ ap some e.key) (when-hit _ _ e.kept ∙ ap some e.value) in
      record { index = h.index; entry = rw words-entries h.below; key = key-at h.index h.below ∙ h.key; value = value-at h.index ∙ h.value }

  pub kept-words : kept_words N sheet ≡ encode N (trimmed_graph (graph N sheet))
  kept-words =
      same-words (kept_words N sheet) (encode N M) words-rising (encoded-rising N M) (λ k v e. says-encoded N M k v (entry-out k v e))
      (λ k v e. entry_in k v (encoded-says N M k v e)) (words-nodes ∙ sym (encoded-nodes N M)) words-length (encoded-length N M)

  -- ---- how many they are

  pub kept-entries : length (keys N (trimmed_graph (graph N sheet))) ≡ count (entry_kept N sheet) (entry_count sheet)
  kept-entries = sym (encoded-entries N M) ∙ sym (ap entry_count kept-words) ∙ words-entries ∙ keys-counted N sheet (entry_count sheet)

  pub kept-few : length (keys N (trimmed_graph (graph N sheet))) ≤ entry_count sheet
  kept-few = omega (arith, kept-entries, count-le (entry_kept N sheet) (entry_count sheet))
