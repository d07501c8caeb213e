-- Decoding what is encoded: the graph of an automaton's words is the automaton.
-- a key has one row and one column
use Rattle.scan.proofs.Basics.{ℕ, ◌+◌, ◌*◌, ◌/◌, ◌%◌, ◌≤◌, ◌<◌, arith, ◌≡◌, refl, sym, ap, ◌∙◌, inl, inr, ltb, some, List}
use lib.Seq.{ext_get_or}
use Rattle.scan.proofs.Tests.{ltb-true, ltb-false, by_test}
use Rattle.scan.proofs.First.{none-some}
use Rattle.automaton.specs.Automaton.{Automaton}
use Rattle.automaton.proofs.Automaton.{arc-cases}
use Rattle.sequential.specs.Petri.{PetriNet}
use Rattle.sequential.specs.Words.{entry_with_key, graph, entry_value}
use Rattle.sequential.proofs.Entries.{row_lt, row-div, row-mod, graph-closed}
use Rattle.encoding.specs.Encoding.{held, encode, Encodable}
use Rattle.encoding.proofs.Encoding.{Says}
use Rattle.encoding.proofs.Entries.{look-up-entered, look-up-absent}
use Rattle.encoding.proofs.Encoded.{encoded-nodes, encoded-says, says-encoded, encoded-rising, encoded-passes}
use Rattle.encoding.proofs.Reading.{arc-inside, held-inside, value_there, graph-confined, graph-places}
use Rattle.scan.specs.Scan.{found_or}

row_one : (n m d x y : ℕ) → x < d → y < d → n * d + x ≡ m * d + y → (n ≡ m) × (x ≡ y)
row_one n m d x y l h e = (
  sym (row-div n d x l) ∙ ap (λ (k : ℕ). k / d) e ∙ row-div m d y h,
  sym (row-mod n d x l) ∙ ap (λ (k : ℕ). k % d) e ∙ row-mod m d y h,
)

module _ (N : PetriNet) (A : Automaton) (T : 0 < N.transitions) (E : Encodable N A) where
  abbrev sheet : List ℕ
  sheet = encode N A

  -- ---- what is said at the key of an arc, and at the key of a count

  said-arc : (n t v : ℕ) → n < A.nodes → t < N.transitions → Says N A (n * N.transitions + t) v → A.arc n t ≡ some v
  said-arc n t v l m (inl a) =
      let (p, q) = row_one n a.node N.transitions t a.transition m a.is-transition a.key in rw (p, q) a.arc
  said-arc n t v l m (inr c) = absurd (omega (arith, row_lt n N.transitions t A.nodes m l, c.key))

  said-count : (n p v : ℕ) → n < A.nodes → p < N.places → Says N A (A.nodes * N.transitions + n * N.places + p) v → (held N A n p ≡ v) × (0 < v)
  said-count n p v l m (inl a) = absurd (omega (arith, row_lt a.node N.transitions a.transition A.nodes a.is-transition a.is_node, a.key))
  said-count n p v l m (inr c) =
      let (e, f) = row_one n c.node N.places p c.place m c.is_place (omega (arith, c.key)) in (rw (e, f) c.value, c.positive)

  -- ---- arcs

  arc-in : (n t : ℕ) → n < A.nodes → t < N.transitions → (graph N sheet).arc n t ≡ A.arc n t
  arc-in n t l m =
      arc-inside N sheet n t (rw (encoded-nodes N A) l) m
      ∙ arc-cases (A.arc n t)
      (λ e. rw (look-up-absent sheet (encoded-rising N A) (n * N.transitions + t)
      (λ v h. none-some (A.arc n t) v e (said-arc n t v l m (encoded-says N A _ v h)))) (sym e))
      (λ v e. look-up-entered sheet (encoded-rising N A) (n * N.transitions + t) v
      (says-encoded N A _ v (inl (record { node = n; transition = t; is_node = l; is-transition = m; key = refl; arc = e }))) ∙ sym e)

  decoded-arc : (n t : ℕ) → (graph N sheet).arc n t ≡ A.arc n t
  decoded-arc n t =
      by_test (ltb n A.nodes)
      (λ p. by_test (ltb t N.transitions) (λ q. arc-in n t (ltb-true n A.nodes p) (ltb-true t N.transitions q))
      (λ q. let h = ltb-false t N.transitions q in
      (graph-closed N sheet T (encoded-passes N A E).arcs).bounded n t h ∙ sym (E.closed.bounded n t (rw E.transitions h))))
      (λ p. let h = ltb-false n A.nodes p in (graph-confined N sheet).arcs n t (rw (encoded-nodes N A) h) ∙ sym (E.confined.arcs n t h))

  -- ---- counts

  abbrev key : ℕ → ℕ → ℕ
  key n p = A.nodes * N.transitions + n * N.places + p

  count-in : (n p : ℕ) → n < A.nodes → p < N.places → held N (graph N sheet) n p ≡ held N A n p
  count-in n p l m =
      held-inside N sheet n p (rw (encoded-nodes N A) l) m
      ∙ rw (encoded-nodes N A) (by_test (ltb 0 (held N A n p)) (λ e. there (ltb-true 0 (held N A n p) e)) (λ e. absent (ltb-false 0 (held N A n p) e)))
    where
      there : 0 < held N A n p → found_or 0 (entry_value sheet) (entry_with_key sheet (key n p)) ≡ held N A n p
      there z =
          value_there N sheet (entry_with_key sheet (key n p)) (held N A n p) (look-up-entered sheet (encoded-rising N A) (key n p) (held N A n p)
          (says-encoded N A (key n p) (held N A n p) (inr (record { node = n; place = p; is_node = l; is_place = m; key = refl; value = refl; positive = z }))))

      absent : held N A n p ≤ 0 → found_or 0 (entry_value sheet) (entry_with_key sheet (key n p)) ≡ held N A n p
      absent z =
          rw (look-up-absent sheet (encoded-rising N A) (key n p) (λ v h. let (e, f) = said-count n p v l m (encoded-says N A (key n p) v h) in omega arith)) (omega arith)

  decoded-label : (n : ℕ) → (graph N sheet).label n ≡ A.label n
  decoded-label n =
      by_test (ltb n A.nodes)
      (λ p. let l = ltb-true n A.nodes p in let e = graph-places N sheet n (rw (encoded-nodes N A) l) in
      ext_get_or 0 ((graph N sheet).label n) (A.label n) (e ∙ sym (E.places n l)) (λ p m. unfold held in (count-in n p l (omega arith))))
      (λ p. let h = ltb-false n A.nodes p in (graph-confined N sheet).labels n (rw (encoded-nodes N A) h) ∙ sym (E.confined.labels n h))

  pub decode_encode : graph N (encode N A) ≡ A
  decode_encode = λ i. record {
    nodes = encoded-nodes N A i;
    transitions = sym E.transitions i;
    arc = λ n t. decoded-arc n t i;
    label = λ n. decoded-label n i;
  }
