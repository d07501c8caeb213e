-- A graph whose nodes get other numbers: it allows the same lists, and stays a schedule and a graph that words can describe. And a graph that differs only in its numbers is such a one.
use Rattle.scan.proofs.Basics.{ℕ, ◌≤◌, ◌<◌, arith, ◌≡◌, refl, sym, ap, ◌∙◌, ◌↔◌, Bool, cond, ltb, eqb, Option, none, some, option_map, List, [], ◌∷◌, length, get_or, length-append}
use mathlib.Core.Option.{map-eq-some_iff}
use Rattle.scan.specs.Scan.{found, count, least}
use Rattle.scan.proofs.Tests.{by_less, lt-ltb, le-ltb, eqb-true, eq-eqb}
use Rattle.scan.proofs.Least.{least-of, least-hit}
use Rattle.scan.proofs.Count.{count-ext}
use Rattle.scan.proofs.Sum.{sum-ext, sum-distinct}
use Rattle.scan.proofs.First.{found_map}
use Rattle.automaton.specs.Automaton.{Automaton, Closed, follow, allows, SameLists}
use Rattle.automaton.specs.Reach.{Reachable}
use Rattle.automaton.specs.Quotient.{Confined, Renumbering}
use Rattle.automaton.proofs.Automaton.{arc-cases, follow-arc, follow-no-arc, follow-lands}
use Rattle.sequential.specs.Petri.{PetriNet, fire}
use Rattle.sequential.specs.Schedule.{Offers, Await, OneChoiceSet, IsSchedule}
use Rattle.encoding.specs.Encoding.{gather_rows, key_of_arc, held, key_of_count, keys, Encodable}
use Rattle.encoding.proofs.Gather.{finds, rows-length}
use Rattle.encoding.proofs.Encoding.{found-when}
use Rattle.demands.specs.Shortest.{Renumbers, renumbered}

module _ (A : Automaton) (to from : ℕ → ℕ) (r : Renumbers A.nodes to from) (c : Closed A) where
  abbrev M : Automaton
  M = renumbered A to from

  -- ---- arcs, labels and lists

  arc-at : (i t : ℕ) → i < A.nodes → (renumbered A to from).arc i t ≡ option_map to (A.arc (from i) t)
  unfolding renumbered
  arc-at i t l = ap (λ (b : Bool). cond b (option_map to (A.arc (from i) t)) none) (lt-ltb i A.nodes l)

  label_at : (i : ℕ) → i < A.nodes → (renumbered A to from).label i ≡ A.label (from i)
  unfolding renumbered
  label_at i l = ap (λ (b : Bool). cond b (A.label (from i)) []) (lt-ltb i A.nodes l)

  arc-to : (n t : ℕ) → n < A.nodes → (renumbered A to from).arc (to n) t ≡ option_map to (A.arc n t)
  arc-to n t l = arc-at (to n) t (r.there n l) ∙ ap (λ (x : ℕ). option_map to (A.arc x t)) (r.there_back n l)

  label-to : (n : ℕ) → n < A.nodes → (renumbered A to from).label (to n) ≡ A.label n
  label-to n l = label_at (to n) (r.there n l) ∙ ap A.label (r.there_back n l)

  follow-to : (σ : List ℕ) (n : ℕ) → n < A.nodes → follow (renumbered A to from) (to n) σ ≡ option_map to (follow A n σ)
  follow-to [] n l = unfold follow in refl
  follow-to (t ∷ σ) n l =
      arc-cases (A.arc n t)
      (λ a. follow-no-arc M (to n) t σ (arc-to n t l ∙ ap (option_map to) a) ∙ sym (ap (option_map to) (follow-no-arc A n t σ a)))
      (λ m a. follow-arc M (to n) t (to m) σ (arc-to n t l ∙ ap (option_map to) a) ∙ follow-to σ m (c.lands n t m l a) ∙
      sym (ap (option_map to) (follow-arc A n t m σ a)))

  follow-root : (σ : List ℕ) → follow (renumbered A to from) 0 σ ≡ option_map to (follow A 0 σ)
  follow-root σ = ap (λ (x : ℕ). follow M x σ) (sym r.root) ∙ follow-to σ 0 c.root

  pub renumbered-lists : SameLists (renumbered A to from) A 0 0
  unfolding SameLists allows
  renumbered-lists σ = ap found (follow-root σ) ∙ found_map to (follow A 0 σ)

  -- an arc is one of A
  arc-from : (i t j : ℕ) → i < A.nodes → (renumbered A to from).arc i t ≡ some j → (m : ℕ) × (A.arc (from i) t ≡ some m) × (to m ≡ j)
  arc-from i t j l e = (map-eq-some_iff to (A.arc (from i) t)).0 (sym (arc-at i t l) ∙ e)

  pub renumbered-closed : Closed (renumbered A to from)
  unfolding renumbered
  renumbered-closed = record {
    root = c.root;
    lands = λ i t j l e. let (m, a, q) = arc-from i t j l e in rw (← q) (r.there m (c.lands (from i) t m (r.back i l) a));
    bounded = λ i t l. by_less i A.nodes (λ k. arc-at i t k ∙ ap (option_map to) (c.bounded (from i) t l)) (λ k. rw (le-ltb i A.nodes k) refl);
  }

  pub renumbered-confined : Confined (renumbered A to from)
  unfolding renumbered
  renumbered-confined = record { arcs = λ i t l. rw (le-ltb i A.nodes l) refl; labels = λ i l. rw (le-ltb i A.nodes l) refl }

  module _ (N : PetriNet) where
    -- ---- a schedule

    offers-to : (n t : ℕ) → n < A.nodes → Offers N (renumbered A to from) (to n) t ↔ Offers N A n t
    offers-to n t l = (
      λ (j, e). let (m, a, q) = (map-eq-some_iff to (A.arc n t)).0 (sym (arc-to n t l) ∙ e) in (m, a),
      λ (m, a). (to m, arc-to n t l ∙ ap (option_map to) a),
    )

    choice-to : (n : ℕ) → n < A.nodes → OneChoiceSet N A n → OneChoiceSet N (renumbered A to from) (to n)
    choice-to n l (t, k, h) = (t, k, λ u m. (λ o. (h u m).0 ((offers-to n u l).0 o), λ x. (offers-to n u l).1 ((h u m).1 x)))

    await-to : (n : ℕ) → n < A.nodes → Await N A n → Await N (renumbered A to from) (to n)
    await-to n l h = λ t k. (λ o. (h t k).0 ((offers-to n t l).0 o), λ s. (offers-to n t l).1 ((h t k).1 s))

    pub renumbered-schedule : IsSchedule N A → IsSchedule N (renumbered A to from)
    unfolding Reachable
    renumbered-schedule s = record {
      starts = ap M.label (sym r.root) ∙ label-to 0 c.root ∙ s.starts;
      choices = λ i l. rw (r.back_there i (here i l)) at (choice-to (from i) (r.back i (here i l)) (s.choices (from i) (r.back i (here i l))));
      root_awaits = rw r.root at (await-to 0 c.root s.root_awaits);
      enables = λ i t j l e. let (m, a, q) = arc-from i t j (here i l) e in rw (label_at i (here i l)) (s.enables (from i) t m (r.back i (here i l)) a);
      lands = λ i t j l e.
          let (m, a, q) = arc-from i t j (here i l) e in
          ap M.label (sym q) ∙ label-to m (c.lands (from i) t m (r.back i (here i l)) a) ∙ s.lands (from i) t m (r.back i (here i l)) a ∙
          ap (λ (x : List ℕ). fire N x t) (sym (label_at i (here i l)));
      reached = λ i l. let (σ, h) = s.reached (from i) (r.back i (here i l)) in (σ, follow-root σ ∙ ap (option_map to) h ∙ ap some (r.back_there i (here i l)));
      returns = λ i l.
          let k = r.back i (here i l) in
          let (σ, m, h, w) = s.returns (from i) k in
          (σ, to m, ap (λ (x : ℕ). follow M x σ) (sym (r.back_there i (here i l))) ∙ follow-to σ (from i) k ∙ ap (option_map to) h, await-to m (follow-lands A c σ (from i) m k h) w);
    }
      where
        here : (i : ℕ) → i < (renumbered A to from).nodes → i < A.nodes
        here i l = unfold renumbered in l

    -- ---- words

    arcs-counted : (i : ℕ) → i < A.nodes → count (finds (key_of_arc N (renumbered A to from) i)) N.transitions ≡ count (finds (key_of_arc N A (from i))) N.transitions
    arcs-counted i l = count-ext (finds (key_of_arc N M i)) (finds (key_of_arc N A (from i))) N.transitions (λ t k.
        unfold finds key_of_arc in (found-when _ _ ∙ ap found (arc-at i t l) ∙ found_map to (A.arc (from i) t) ∙ sym (found-when _ _)))

    counts-counted : (i : ℕ) → i < A.nodes → count (finds (key_of_count N (renumbered A to from) i)) N.places ≡ count (finds (key_of_count N A (from i))) N.places
    counts-counted i l = count-ext (finds (key_of_count N M i)) (finds (key_of_count N A (from i))) N.places (λ p k.
        unfold finds key_of_count held in (found-when _ _ ∙ ap (λ (x : List ℕ). ltb 0 (get_or x p 0)) (label_at i l) ∙ sym (found-when _ _)))

    -- no more entries: rows of different nodes
    apart : (i j : ℕ) → i < j → j < A.nodes → from i ≡ from j → ⊥
    apart i j ij lj e = let q : i ≡ j = sym (r.back_there i (omega arith)) ∙ ap to e ∙ r.back_there j lj in omega arith

    renumbered-keys : length (keys N (renumbered A to from)) ≤ length (keys N A)
    unfolding keys renumbered
    renumbered-keys = omega (
      arith,
      length-append (gather_rows (key_of_arc N M) N.transitions A.nodes) (gather_rows (key_of_count N M) N.places A.nodes),
      rows-length (key_of_arc N M) N.transitions A.nodes,
      rows-length (key_of_count N M) N.places A.nodes,
      length-append (gather_rows (key_of_arc N A) N.transitions A.nodes) (gather_rows (key_of_count N A) N.places A.nodes),
      rows-length (key_of_arc N A) N.transitions A.nodes,
      rows-length (key_of_count N A) N.places A.nodes,
      sum-ext _ _ A.nodes arcs-counted,
      sum-ext _ _ A.nodes counts-counted,
      sum-distinct (λ n. count (finds (key_of_arc N A n)) N.transitions) from A.nodes A.nodes r.back apart,
      sum-distinct (λ n. count (finds (key_of_count N A n)) N.places) from A.nodes A.nodes r.back apart,
    )

    pub renumbered-encodable : Encodable N A → Encodable N (renumbered A to from)
    renumbered-encodable E = record {
      transitions = unfold renumbered in E.transitions;
      few_nodes = unfold renumbered in E.few_nodes;
      few_entries = omega (arith, renumbered-keys, E.few_entries);
      closed = renumbered-closed;
      confined = renumbered-confined;
      places = λ i l. ap length (label_at i (node i l)) ∙ E.places (from i) (r.back i (node i l));
      most = λ i p l k. unfold held in (rw (label_at i (node i l)) (unfold held in (E.most (from i) p (r.back i (node i l)) k)));
    }
      where
        node : (i : ℕ) → i < (renumbered A to from).nodes → i < A.nodes
        node i l = unfold renumbered in l

-- ---- a graph that differs in the numbers of its nodes alone is one under other numbers

-- which of so many nodes has number i
unfoldable pub inverse : (ℕ → ℕ) → ℕ → ℕ → ℕ
inverse f nodes i = least (λ n. eqb (f n) i) nodes

module _ (B A : Automaton) (f : ℕ → ℕ) (R : Renumbering B A f) (same : B.nodes ≡ A.nodes) (cB : Closed B) where
  abbrev to : ℕ → ℕ
  to = inverse f A.nodes

  inverse-hit : (i : ℕ) → i < A.nodes → (inverse f A.nodes i < A.nodes) × (f (inverse f A.nodes i) ≡ i)
  unfolding inverse
  inverse-hit i l =
      let (n, k, e) = R.onto i l in
      let m : least (λ x. eqb (f x) i) A.nodes < A.nodes = omega (arith, least-of (λ x. eqb (f x) i) A.nodes n (eq-eqb (f n) i e)) in
      (m, eqb-true _ i (least-hit (λ x. eqb (f x) i) A.nodes m))

  inverse-of : (n : ℕ) → n < A.nodes → inverse f A.nodes (f n) ≡ n
  inverse-of n l =
      let k : n < B.nodes = omega arith in
      let (m, e) = inverse-hit (f n) (R.node n k) in
      R.injective (to (f n)) n (omega arith) k e

  pub renumbers : Renumbers A.nodes (inverse f A.nodes) f
  renumbers = record {
    root = ap to (sym R.root) ∙ inverse-of 0 (omega (arith, cB.root));
    there = λ i l. (inverse-hit i l).0;
    back = λ n l. R.node n (omega arith);
    there_back = λ i l. (inverse-hit i l).1;
    back_there = inverse-of;
  }

  -- what an arc of B leads to, through A and back
  through : (n t : ℕ) → n < A.nodes → (o : Option ℕ) → B.arc n t ≡ o → option_map (inverse f A.nodes) (option_map f o) ≡ o
  through n t l none e = refl
  through n t l (some m) e = ap some (inverse-of m (omega (arith, cB.lands n t m (omega arith) e)))

  module _ (k : Confined B) where
    arcs-are : (n t : ℕ) → B.arc n t ≡ (renumbered A (inverse f A.nodes) f).arc n t
    unfolding renumbered
    arcs-are n t = by_less n A.nodes
        (λ l. sym (through n t l (B.arc n t) refl) ∙ ap (option_map to) (sym (R.arcs n t (omega arith))) ∙
        ap (λ (b : Bool). cond b (option_map to (A.arc (f n) t)) none) (sym (lt-ltb n A.nodes l)))
        (λ l. k.arcs n t (omega arith) ∙ ap (λ (b : Bool). cond b (option_map to (A.arc (f n) t)) none) (sym (le-ltb n A.nodes l)))

    labels-are : (n : ℕ) → B.label n ≡ (renumbered A (inverse f A.nodes) f).label n
    unfolding renumbered
    labels-are n = by_less n A.nodes
        (λ l. sym (R.labels n (omega arith)) ∙ ap (λ (b : Bool). cond b (A.label (f n)) []) (sym (lt-ltb n A.nodes l)))
        (λ l. k.labels n (omega arith) ∙ ap (λ (b : Bool). cond b (A.label (f n)) []) (sym (le-ltb n A.nodes l)))

    pub renumbered-is : B.transitions ≡ A.transitions → B ≡ renumbered A (inverse f A.nodes) f
    unfolding renumbered
    renumbered-is T = λ i. record { nodes = same i; transitions = T i; arc = λ n t. arcs-are n t i; label = λ n. labels-are n i }
