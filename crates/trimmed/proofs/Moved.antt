-- What becomes of an entry: an entry of a kept node becomes an entry of the trimmed graph, with its new key and value; every entry of that graph comes from one; and the new keys rise.
use Rattle.scan.proofs.Basics.{ℕ, ◌+◌, ◌-◌, ◌*◌, ◌≤◌, ◌<◌, arith, ◌≡◌, refl, sym, ap, ◌∙◌, inl, inr, ⊎_elim, true, false, option_map, List}
use Rattle.scan.proofs.Tests.{lt-ltb, le-ltb}
use Rattle.table.proofs.Table.{rising}
use Rattle.automaton.specs.Automaton.{Automaton, Closed}
use Rattle.automaton.specs.Reach.{Reachable}
use Rattle.automaton.proofs.Reach.{reachable-node, arc-reachable}
use Rattle.sequential.specs.Petri.{PetriNet}
use Rattle.sequential.specs.Words.{node_count, entry_count, entry_key, entry_value, arc_keys, graph, is_arc, arc_node, arc_transition}
use Rattle.sequential.specs.Known.{WordsHold}
use Rattle.sequential.proofs.Words.{words-rise}
use Rattle.sequential.proofs.Entries.{row_lt, row-div, row-mod, entry-arc, graph-closed}
use Rattle.encoding.specs.Encoding.{held}
use Rattle.encoding.proofs.Encoding.{ArcAt, CountAt, Says}
use Rattle.encoding.proofs.Encoded.{encoded-says, says-encoded}
use Rattle.encoding.proofs.Entries.{Entered}
use Rattle.encoding.proofs.Recoded.{encode_decode}
use Rattle.trimmed.specs.Trim.{is_kept, new_number, trimmed_graph}
use Rattle.trimmed.specs.Entries.{count_node, count_place, entry_node, entry_kept, new_key, new_value}
use Rattle.trimmed.proofs.Gathered.{row-rises}
use Rattle.automaton.proofs.Carried.{carried-arc}
use Rattle.trimmed.proofs.Trimmed.{kept↔, trimming, trimming-carries}

module _ (N : PetriNet) (sheet : List ℕ) where
  abbrev A : Automaton
  A = graph N sheet

  abbrev M : Automaton
  M = trimmed_graph (graph N sheet)

  abbrev f : ℕ → ℕ
  f n = new_number (graph N sheet) n

  -- ---- an entry of an arc, and one of a count

  -- what it becomes
  pub record Becomes (i n k v : ℕ) : Type 0 where
    pub node : entry_node N sheet i ≡ n
    pub key : new_key N sheet i ≡ k
    pub value : new_value N sheet i ≡ v

  arc-becomes : (i n t v : ℕ) → entry_key sheet i ≡ n * N.transitions + t → entry_value sheet i ≡ v → n < node_count sheet → t < N.transitions
      → Becomes i n (f n * N.transitions + t) (f v)
  arc-becomes i n t v k e l m = record {
    node = node;
    key = unfold new_key in (rw (arc, node, is-transition) refl);
    value = unfold new_value in (rw (arc, e) refl);
  }
    where
      arc : is_arc N sheet i ≡ true
      arc = unfold is_arc arc_keys in (rw k (lt-ltb _ _ (row_lt n N.transitions t (node_count sheet) m l)))

      node : entry_node N sheet i ≡ n
      node = unfold entry_node arc_node in (rw (arc, k) (row-div n N.transitions t m))

      is-transition : arc_transition N sheet i ≡ t
      is-transition = unfold arc_transition in (rw k (row-mod n N.transitions t m))

  count-becomes : (i n p v : ℕ) → entry_key sheet i ≡ node_count sheet * N.transitions + n * N.places + p → entry_value sheet i ≡ v → p < N.places
      → Becomes i n (M.nodes * N.transitions + f n * N.places + p) v
  count-becomes i n p v k e m = record {
    node = node;
    key = unfold new_key in (rw (arc, node, is_place) refl);
    value = unfold new_value in (rw arc e);
  }
    where
      rest : entry_key sheet i - arc_keys N sheet ≡ n * N.places + p
      rest = unfold arc_keys in (omega (arith, k))

      arc : is_arc N sheet i ≡ false
      arc = unfold is_arc arc_keys in (let h : node_count sheet * N.transitions ≤ entry_key sheet i = omega (arith, k) in le-ltb _ _ h)

      node : entry_node N sheet i ≡ n
      node = unfold entry_node count_node in (rw (arc, rest) (row-div n N.places p m))

      is_place : count_place N sheet i ≡ p
      is_place = unfold count_place in (rw rest (row-mod n N.places p m))

  module _ (T : 0 < N.transitions) (P : 0 < N.places) (w : WordsHold N sheet) where
    closed : Closed A
    closed = graph-closed N sheet T w.arcs

    said : (i : ℕ) → i < entry_count sheet → Says N A (entry_key sheet i) (entry_value sheet i)
    said i l = encoded-says N A _ _ (rw (encode_decode N sheet T P w) (record { index = i; entry = l; key = refl; value = refl }))

    entered : (k v : ℕ) → Says N A k v → Entered sheet k v
    entered k v s = rw (encode_decode N sheet T P w) at (says-encoded N A k v s)

    -- an entry is of a node; where that one is kept its number is a new node, and so is the target of an arc
    pub entry-below : (i : ℕ) → i < entry_count sheet → entry_node N sheet i < node_count sheet
    entry-below i l =
        ⊎_elim (λ a. rw (arc-becomes i a.node a.transition _ a.key refl a.is_node a.is-transition).node a.is_node)
        (λ a. rw (count-becomes i a.node a.place _ a.key refl a.is_place).node a.is_node) (said i l)

    pub number-below : (i : ℕ) → entry_kept N sheet i ≡ true → new_number (graph N sheet) (entry_node N sheet i) < (trimmed_graph (graph N sheet)).nodes
    unfolding entry_kept
    number-below i k = (trimming A closed).node (entry_node N sheet i) ((kept↔ A closed (entry_node N sheet i)).0 k)

    pub target-kept : (i : ℕ) → i < entry_count sheet → is_arc N sheet i ≡ true → entry_kept N sheet i ≡ true → is_kept (graph N sheet) (entry_value sheet i) ≡ true
    unfolding entry_kept entry_node
    target-kept i l a k =
        (kept↔ A closed (entry_value sheet i)).1 (arc-reachable A (arc_node N sheet i) (arc_transition N sheet i) (entry_value sheet i)
        ((kept↔ A closed (arc_node N sheet i)).0 (rw a at k)) (entry-arc N sheet T w.arcs i l a))

    -- ---- a kept entry is one of the trimmed graph

    arc-in : {k v : ℕ} (a : ArcAt N A k v) → Reachable A a.node → ArcAt N M (f a.node * N.transitions + a.transition) (f v)
    arc-in a r = record {
      node = f a.node;
      transition = a.transition;
      is_node = (trimming A closed).node a.node r;
      is-transition = a.is-transition;
      key = refl;
      arc = (trimming A closed).arcs a.node a.transition r ∙ ap (option_map (new_number A)) a.arc;
    }

    held_same : (n p : ℕ) → Reachable A n → held N M (f n) p ≡ held N A n p
    unfolding held
    held_same n p r = rw ((trimming A closed).labels n r) refl

    count-in : {k v : ℕ} (a : CountAt N A k v) → Reachable A a.node → CountAt N M (M.nodes * N.transitions + f a.node * N.places + a.place) v
    count-in a r = record {
      node = f a.node;
      place = a.place;
      is_node = (trimming A closed).node a.node r;
      is_place = a.is_place;
      key = refl;
      value = held_same a.node a.place r ∙ a.value;
      positive = a.positive;
    }

    pub kept-says : (i : ℕ) → i < entry_count sheet → entry_kept N sheet i ≡ true → Says N M (new_key N sheet i) (new_value N sheet i)
    unfolding entry_kept
    kept-says i l h =
        ⊎_elim
        (λ a. let b = arc-becomes i a.node a.transition (entry_value sheet i) a.key refl a.is_node a.is-transition in
        inl (rw (b.key, b.value) (arc-in a ((kept↔ A closed a.node).0 (rw b.node at h)))))
        (λ a. let b = count-becomes i a.node a.place (entry_value sheet i) a.key refl a.is_place in
        inr (rw (b.key, b.value) (count-in a ((kept↔ A closed a.node).0 (rw b.node at h)))))
        (said i l)

    -- ---- and every entry of the trimmed graph is a kept one

    pub record Kept (k v : ℕ) : Type 0 where
      pub index : ℕ
      pub entry : index < entry_count sheet
      pub kept : entry_kept N sheet index ≡ true
      pub key : new_key N sheet index ≡ k
      pub value : new_value N sheet index ≡ v

    kept_of : {k v k' v' : ℕ} (i n : ℕ) → i < entry_count sheet → Reachable A n → Becomes i n k' v' → k' ≡ k → v' ≡ v → Kept k v
    kept_of i n l r b x y = record { index = i; entry = l; kept = unfold entry_kept in (rw b.node ((kept↔ A closed n).1 r)); key = b.key ∙ x; value = b.value ∙ y }

    pub says-kept : (k v : ℕ) → Says N M k v → Kept k v
    says-kept k v (inl a) =
        let (n, m, r, p, b, q) = carried-arc (trimming-carries (trimming A closed)) a.node a.transition v a.is_node a.arc in
        let l = reachable-node A closed n r in
        let e = entered (n * N.transitions + a.transition) m
        (inl (record { node = n; transition = a.transition; is_node = l; is-transition = a.is-transition; key = refl; arc = b })) in
        kept_of e.index n e.entry r (arc-becomes e.index n a.transition m e.key e.value l a.is-transition)
        (ap (λ (x : ℕ). x * N.transitions + a.transition) p ∙ sym a.key) q
    says-kept k v (inr a) =
        let (n, r, p) = (trimming A closed).onto a.node a.is_node in
        let e = entered (node_count sheet * N.transitions + n * N.places + a.place) v (inr (record {
          node = n;
          place = a.place;
          is_node = reachable-node A closed n r;
          is_place = a.is_place;
          key = refl;
          value = sym (held_same n a.place r) ∙ rw p a.value;
          positive = a.positive;
        })) in
        kept_of e.index n e.entry r (count-becomes e.index n a.place v e.key e.value a.is_place)
        (ap (λ (x : ℕ). M.nodes * N.transitions + x * N.places + a.place) p ∙ sym a.key) refl

    -- ---- the new keys rise

    pub keys-rise : (i j : ℕ) → i < j → j < entry_count sheet → entry_kept N sheet i ≡ true → entry_kept N sheet j ≡ true → new_key N sheet i < new_key N sheet j
    unfolding entry_kept
    keys-rise i j l m g h = go (said i (omega arith)) (said j m)
      where
        up : entry_key sheet i < entry_key sheet j
        up = unfold entry_key in (rising sheet 2 (entry_count sheet) (words-rise N sheet w.arcs) i j l m)

        reached : {n x k v : ℕ} → is_kept A (entry_node N sheet x) ≡ true → Becomes x n k v → Reachable A n
        reached {n} e b = (kept↔ A closed n).0 (rw b.node at e)

        go : Says N A (entry_key sheet i) (entry_value sheet i) → Says N A (entry_key sheet j) (entry_value sheet j) → new_key N sheet i < new_key N sheet j
        go (inl a) (inl b) =
            let x = arc-becomes i a.node a.transition _ a.key refl a.is_node a.is-transition in
            let y = arc-becomes j b.node b.transition _ b.key refl b.is_node b.is-transition in
            rw (x.key, y.key) (row-rises (new_number A) a.node a.transition b.node b.transition N.transitions a.is-transition b.is-transition
            (omega (arith, up, a.key, b.key)) ((trimming A closed).rising a.node b.node (reached g x) (reached h y)))
        go (inl a) (inr b) =
            let x = arc-becomes i a.node a.transition _ a.key refl a.is_node a.is-transition in
            let y = count-becomes j b.node b.place _ b.key refl b.is_place in
            rw (x.key, y.key) (omega (arith, row_lt (f a.node) N.transitions a.transition M.nodes a.is-transition ((trimming A closed).node a.node (reached g x))))
        go (inr a) (inl b) = absurd (omega (arith, up, a.key, b.key, row_lt b.node N.transitions b.transition (node_count sheet) b.is-transition b.is_node))
        go (inr a) (inr b) =
            let x = count-becomes i a.node a.place _ a.key refl a.is_place in
            let y = count-becomes j b.node b.place _ b.key refl b.is_place in
            rw (x.key, y.key) (omega (
              arith,
              row-rises (new_number A) a.node a.place b.node b.place N.places a.is_place b.is_place
                  (omega (arith, up, a.key, b.key)) ((trimming A closed).rising a.node b.node (reached g x) (reached h y)),
            ))
