-- The number of arc entries is the number of arcs of the graph.
use Rattle.scan.proofs.Basics.{ℕ, zero, suc, ◌+◌, ◌*◌, ◌/◌, ◌%◌, ◌<◌, arith, ◌≡◌, refl, sym, ◌∙◌, ⊎_elim, Bool, true, false, ltb, eqb, List}
use Prim.Native.Nat.{zero-le}
use native.Mathlib.Nat.{div-add-mod'}
use mathlib.Core.Bool.{or-false}
use Rattle.scan.proofs.Tests.{ltb-true, ltb-false, eqb-true, eq-eqb, ne_eqb, by_test, iff→eq, lt-suc-cases}
use Rattle.scan.specs.Scan.{any, bit, count}
use Rattle.scan.proofs.Every.{any-in, any_out, any_none, any-none-yet}
use Rattle.scan.proofs.Count.{count-prefix, count-ext}
use Rattle.table.proofs.Table.{rising}
use Rattle.sequential.specs.Petri.{PetriNet}
use Rattle.sequential.specs.Words.{node_count, entry_count, entry_key, arc_keys, graph, is_arc, arc_node, arc_transition}
use Rattle.sequential.specs.Tests.{offers}
use Rattle.sequential.specs.Check.{arc_count}
use Rattle.sequential.specs.Known.{ArcsHold}
use Rattle.sequential.proofs.Words.{words-rise}
use Rattle.sequential.proofs.Entries.{arc-entry, entry-arc}
use Rattle.sequential.proofs.Clauses.{offers↔}
use Rattle.sequential.proofs.Faults.{is_arc↔}

-- ---- counting

-- g passes at one index more than f
count-one-more : (f g : ℕ → Bool) (n x : ℕ) → x < n → f x ≡ false → g x ≡ true → ((i : ℕ) → i < n → (i ≡ x → ⊥) → f i ≡ g i) → count g n ≡ count f n + 1
unfolding count bit
count-one-more f g zero x l a b h = absurd (omega arith)
count-one-more f g (suc n) x l a b h =
    ⊎_elim (λ q. let a' = rw q at a in let b' = rw q at b in rw (a', b') (omega (arith, count-ext f g n (λ i m. h i (omega arith) (λ z. omega arith)))))
    (λ m. rw (h n (omega arith) (λ z. omega arith)) (omega (arith, count-one-more f g n x m a b (λ i k. h i (omega arith))))) (lt-suc-cases l)

-- ---- keys that rise: as many lie below a limit as there are numbers below it that are keys

module _ (key : ℕ → ℕ) where
  abbrev is : ℕ → ℕ → Bool
  is v i = eqb (key i) v

  -- v is one of the first k keys
  abbrev is_key : ℕ → ℕ → Bool
  is_key k v = any (is v) k

  key_more : (k v : ℕ) → (key k ≡ v → ⊥) → is_key k v ≡ is_key (suc k) v
  unfolding any
  key_more k v h = rw (ne_eqb (key k) v h) (sym (or-false _))

  keys_below : (limit k : ℕ) → ((i j : ℕ) → i < j → j < k → key i < key j) → count (λ i. ltb (key i) limit) k ≡ count (is_key k) limit
  unfolding count bit
  keys_below limit zero r = sym (count-prefix (is_key 0) limit 0 zero-le (λ v l. absurd (omega arith)) (λ v z l. any-none-yet (is v)))
  keys_below limit (suc k) r =
      let h = keys_below limit k (λ i j m l. r i j m (omega arith)) in
      let new : is_key k (key k) ≡ false = any_none (is (key k)) k (λ i m. ne_eqb (key i) (key k) (λ q. omega (arith, r i k m (omega arith)))) in
      let now : is_key (suc k) (key k) ≡ true = any-in (is (key k)) (suc k) k (omega arith) (eq-eqb (key k) (key k) refl) in
      by_test (ltb (key k) limit)
      (λ e. rw e (omega (arith, h, count-one-more (is_key k) (is_key (suc k)) limit (key k) (ltb-true (key k) limit e) new now (λ v l n. key_more k v (λ q. n (sym q))))))
      (λ e. rw e (omega (arith, h, count-ext (is_key k) (is_key (suc k)) limit (λ v l. key_more k v (λ q. omega (arith, ltb-false (key k) limit e))))))

-- ---- arcs

module _ (N : PetriNet) (sheet : List ℕ) (T : 0 < N.transitions) (w : ArcsHold N sheet) where
  -- by key: the node that a key of an arc names offers the transition that it names
  abbrev pub offers_key : ℕ → Bool
  offers_key k = offers N (graph N sheet) (k / N.transitions) (k % N.transitions)

  key-offered : (k : ℕ) → k < arc_keys N sheet → is_key (entry_key sheet) (entry_count sheet) k ≡ true → offers_key k ≡ true
  unfolding arc_node arc_transition
  key-offered k l h =
      let (i, m, q) = any_out (is (entry_key sheet) k) (entry_count sheet) h in
      let e = eqb-true (entry_key sheet i) k q in
      let a = entry-arc N sheet T w i m ((is_arc↔ N sheet i).1 (rw e l)) in
      (offers↔ N (graph N sheet) _ _).1 (_, rw e at a)

  offered-key : (k : ℕ) → offers_key k ≡ true → is_key (entry_key sheet) (entry_count sheet) k ≡ true
  unfolding arc_node arc_transition
  offered-key k h =
      let (m, a) = (offers↔ N (graph N sheet) _ _).0 h in
      let (i, r) = arc-entry N sheet T w (k / N.transitions) (k % N.transitions) m a in
      let e : entry_key sheet i / N.transitions * N.transitions + entry_key sheet i % N.transitions ≡ k = rw (r.node, r.transition) (div-add-mod' k N.transitions) in
      any-in (is (entry_key sheet) k) (entry_count sheet) i r.entry (eq-eqb (entry_key sheet i) k (sym (div-add-mod' (entry_key sheet i) N.transitions) ∙ e))

  -- as many as the keys below V × T whose arc the graph has
  pub arcs-counted : arc_count N sheet ≡ count offers_key (node_count sheet * N.transitions)
  unfolding arc_count is_arc arc_keys
  arcs-counted =
      keys_below (entry_key sheet) (arc_keys N sheet) (entry_count sheet) (unfold entry_key in (rising sheet 2 (entry_count sheet) (words-rise N sheet w)))
      ∙ count-ext (is_key (entry_key sheet) (entry_count sheet)) offers_key (arc_keys N sheet) (λ k l. iff→eq _ _ (key-offered k l) (offered-key k))
