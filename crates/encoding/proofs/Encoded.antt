-- The words of an automaton as a sheet: its entries are the automaton's arcs and counts, and 6 to 9 refuse nothing.
use Rattle.scan.proofs.Basics.{ℕ, suc, ◌+◌, ◌-◌, ◌*◌, ◌≤◌, ◌<◌, arith, ◌≡◌, refl, sym, ◌∙◌, inl, inr, length, get_or, length-append}
use native.Mathlib.Nat.{mul-add}
use lib.ListN.{get_or-append}
use lib.Seq.{get_or-append-add}
use Rattle.table.specs.Table.{key_at, value_at, Rising}
use Rattle.automaton.specs.Automaton.{Automaton}
use Rattle.refusal.specs.Limits.{most_count}
use Rattle.sequential.specs.Petri.{PetriNet}
use Rattle.sequential.specs.Words.{node_count, entry_count, entry_key, entry_value, arc_keys, key_limit}
use Rattle.sequential.specs.Checks.{ArcValuePasses}
use Rattle.sequential.specs.Known.{WordsHold}
use Rattle.sequential.proofs.Entries.{row_lt}
use Rattle.encoding.specs.Encoding.{keys, values, encode, Encodable}
use Rattle.encoding.proofs.Encoding.{Says, keys-paired, keys_between, stands→says, says→stands}
use Rattle.encoding.proofs.Entries.{Entered}

module _ (N : PetriNet) (A : Automaton) where
  -- ---- the words

  pub encoded-nodes : node_count (encode N A) ≡ A.nodes
  unfolding encode
  encoded-nodes = refl

  pub encoded-entries : entry_count (encode N A) ≡ length (keys N A)
  unfolding encode
  encoded-entries = refl

  pub encoded-length : length (encode N A) ≡ 2 + 2 * entry_count (encode N A)
  unfolding encode
  encoded-length = omega (arith, length-append (keys N A) (values N A), keys-paired N A)

  encoded-arcs : arc_keys N (encode N A) ≡ A.nodes * N.transitions
  unfolding arc_keys
  encoded-arcs = rw encoded-nodes

  encoded-limit : key_limit N (encode N A) ≡ A.nodes * N.transitions + A.nodes * N.places
  unfolding key_limit
  encoded-limit = rw encoded-nodes (mul-add A.nodes N.transitions N.places)

  encoded-key : (i : ℕ) → i < entry_count (encode N A) → entry_key (encode N A) i ≡ get_or (keys N A) i 0
  unfolding entry_key key_at encode
  encoded-key i l = let q : 2 + i ≡ suc (suc i) = omega arith in rw q (get_or-append (keys N A) (values N A) 0 i l)

  encoded-value : (i : ℕ) → entry_value (encode N A) i ≡ get_or (values N A) i 0
  unfolding entry_value value_at encode
  encoded-value i =
      let q : 2 + length (keys N A) + i ≡ suc (suc (length (keys N A) + i)) = omega arith in
      rw q (get_or-append-add (keys N A) (values N A) i 0)

  -- ---- the entries

  pub encoded-says : (k v : ℕ) → Entered (encode N A) k v → Says N A k v
  encoded-says k v e = stands→says N A k v (record {
    index = e.index;
    below = rw encoded-entries at e.entry;
    key = sym (encoded-key e.index e.entry) ∙ e.key;
    value = sym (encoded-value e.index) ∙ e.value;
  })

  pub says-encoded : (k v : ℕ) → Says N A k v → Entered (encode N A) k v
  says-encoded k v s =
      let h = says→stands N A k v s in
      let m : h.index < entry_count (encode N A) = rw encoded-entries h.below in
      record { index = h.index; entry = m; key = encoded-key h.index m ∙ h.key; value = encoded-value h.index ∙ h.value }

  encoded-above : (i j : ℕ) → i < j → j < entry_count (encode N A) → entry_key (encode N A) i < entry_key (encode N A) j
  encoded-above i j h l =
      rw (encoded-key i (omega arith), encoded-key j l) ((keys_between N A).rising i j h (rw encoded-entries at l))

  pub encoded-rising : Rising (encode N A) 2 (entry_count (encode N A))
  unfolding entry_key
  encoded-rising = record { above = λ i l. encoded-above i (i + 1) (omega arith) l }

  -- ---- 6 to 9

  -- an arc's key lies below V × T, a count's does not
  module _ (E : Encodable N A) where
    says-target : (k v : ℕ) → k < A.nodes * N.transitions → Says N A k v → v < A.nodes
    says-target k v l (inl a) = E.closed.lands a.node a.transition v a.is_node a.arc
    says-target k v l (inr c) = absurd (omega (arith, c.key))

    says-count : (k v : ℕ) → A.nodes * N.transitions ≤ k → Says N A k v → (1 ≤ v) × (v ≤ most_count)
    says-count k v l (inl a) = absurd (omega (arith, a.key, row_lt a.node N.transitions a.transition A.nodes a.is-transition a.is_node))
    says-count k v l (inr c) = (c.positive, rw c.value at (E.most c.node c.place c.is_node c.is_place))

    own : (i : ℕ) → i < entry_count (encode N A) → Says N A (entry_key (encode N A) i) (entry_value (encode N A) i)
    own i l = encoded-says (entry_key (encode N A) i) (entry_value (encode N A) i) (record { index = i; entry = l; key = refl; value = refl })

    target : (i : ℕ) → i < entry_count (encode N A) → ArcValuePasses (encode N A) (arc_keys N (encode N A)) i
    target i l h = rw encoded-nodes (says-target _ _ (rw encoded-arcs at h) (own i l))

    pub encoded-passes : WordsHold N (encode N A)
    encoded-passes = record {
      arcs = record {
        shape = record {
          some_node = rw encoded-nodes E.closed.root;
          few_nodes = rw encoded-nodes E.few_nodes;
          few_entries = rw encoded-entries E.few_entries;
          whole = encoded-length;
        };
        keys = λ i l. record {
          low = unfold entry_key in (rw (encoded-key i l, encoded-limit) ((keys_between N A).below i (rw encoded-entries at l)));
          above = λ z. unfold entry_key in (encoded-above (i - 1) i (omega arith) l);
        };
        targets = target;
      };
      values = λ i l. record {
        target = target i l;
        some = λ h. (says-count _ _ (rw encoded-arcs at h) (own i l)).0;
        most = λ h. (says-count _ _ (rw encoded-arcs at h) (own i l)).1;
      };
    }
