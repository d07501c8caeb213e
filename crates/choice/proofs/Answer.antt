-- The scan over the nodes: nothing is found before node n, and the marks are those of the await nodes below n.
use Rattle.std.specs.Prelude.{Err, Ok}
use Rattle.refusal.specs.declared.Reason.TheVariants.{RootNotAwait}
use Rattle.scan.proofs.Basics.{ℕ, ◌+◌, ◌<◌, arith, ◌≡◌, refl, sym, ap, ◌∙◌, Bool, true, false, not, ◌&&◌, ltb, eqb, some, List, get_or, set, replicate, length-set, get_or-set_same, get_or-set_other}
use Prim.Native.Nat.{min}
use lib.ListN.{get_or-replicate}
use Rattle.scan.proofs.Tests.{ltb-true, lt-ltb, le-ltb, eqb-true, eqb-false, ne_eqb, by_test, iff→eq}
use Rattle.scan.specs.Scan.{when, bit, tabulate, found}
use Rattle.scan.proofs.First.{first-none, first_more, first-hit, or_else-hit, or_else-next}
use Rattle.scan.proofs.Tabulate.{tabulate-is, tabulate-at, tabulate-length}
use Rattle.refusal.specs.Refusal.{refusal}
use Rattle.refusal.specs.declared.Position.TheVariants.{Node}
use Rattle.refusal.specs.declared.Refusal.{Refusal}
use Rattle.net.specs.Net.{transition_count}
use Rattle.automaton.specs.Automaton.{Automaton}
use Rattle.sequential.specs.Petri.{PetriNet}
use Rattle.sequential.specs.Words.{node_count}
use Rattle.sequential.specs.Tests.{offers, is_await}
use Rattle.graph.specs.Rows.{arc_entry_row}
use Rattle.sequential.specs.Only.{only}
use Rattle.choice.specs.Rows.{net_by_rows, present, arc_by_row, graph_by_rows}
use Rattle.choice.specs.Choices.{ChoicesOf, offer_of}
use Rattle.choice.specs.Whole.{Offering}
use Rattle.choice.specs.Passing.{Ground, Passing, Walked}
use Rattle.choice.specs.Nodes.{NodesAnswer, offer_fault, awaits_below, offers_fault, await_mark, await_marks, task_nodes_reply}
use Rattle.choice.specs.declared.offers.Offer.{Offer}
use Rattle.choice.specs.declared.offers.Offer.TheVariants.{Whole}
use Rattle.choice.proofs.Choices.{leader-low}
use Rattle.choice.proofs.Offer.{Tells, offer-tells}

pub ground-is : {net : List ℕ} {s : ℕ} {sheet leaders : List ℕ} {source transitions nodes : ℕ} → ChoicesOf (only (net_by_rows net) s) leaders source → transitions ≡ min (transition_count net) 32
    → nodes ≡ min (node_count sheet) 128 → Ground net s sheet leaders source transitions nodes
ground-is c t n = record { choices = c; transitions_are = unfold net_by_rows in t; nodes_are = unfold graph_by_rows in n; few_nodes = omega arith; few_transitions = omega arith }

-- what the look at one node asks
pub offering : {net : List ℕ} {s : ℕ} {sheet leaders : List ℕ} {source transitions nodes : ℕ} → Ground net s sheet leaders source transitions nodes → Offering net leaders transitions
offering {net = net} {s = s} g = record { all = unfold net_by_rows in g.transitions_are; led = λ t l m. leader-low (only (net_by_rows net) s) g.choices t (omega (arith, g.transitions_are)) m }

-- ---- marks

module _ (N : PetriNet) (A : Automaton) where
  none_below : replicate 128 0 ≡ tabulate (await_mark N A 0) 128
  unfolding await_mark awaits_below bit
  none_below = tabulate-is (await_mark N A 0) 0 128 (replicate 128 0) refl (λ m l. rw (le-ltb m 0 (omega arith)) (get_or-replicate {A = ℕ} 128 m 0 0 l))

  pub root-mark : (n : ℕ) → not (awaits_below N A n 0) ≡ eqb (get_or (tabulate (await_mark N A n) 128) 0 0) 0
  unfolding await_mark bit
  root-mark n = rw (tabulate-at (await_mark N A n) 0 128 0 (omega arith)) (go (awaits_below N A n 0))
    where
      go : (b : Bool) → not b ≡ eqb (bit b) 0
      go true = refl
      go false = refl

  -- below n + 1 there is one node more
  more-below : (n m : ℕ) → (m ≡ n → ⊥) → await_mark N A (n + 1) m ≡ await_mark N A n m
  unfolding await_mark awaits_below
  more-below n m d =
      ap (λ (b : Bool). bit (b && is_await N A m))
      (iff→eq (ltb m (n + 1)) (ltb m n) (λ e. let l = ltb-true m (n + 1) e in lt-ltb m n (omega arith)) (λ e. let l = ltb-true m n e in lt-ltb m (n + 1) (omega arith)))

  at_last : (n : ℕ) → await_mark N A (n + 1) n ≡ bit (is_await N A n)
  unfolding await_mark awaits_below
  at_last n = rw (lt-ltb n (n + 1) (omega arith))

  marks-more : (n v : ℕ) → n < 128 → v ≡ bit (is_await N A n) → set (tabulate (await_mark N A n) 128) n v ≡ tabulate (await_mark N A (n + 1)) 128
  marks-more n v l e =
      let marks = tabulate (await_mark N A n) 128 in
      let long = tabulate-length (await_mark N A n) 128 in
      tabulate-is (await_mark N A (n + 1)) 0 128 (set marks n v) (length-set marks n v ∙ long)
      (λ m k. by_test (eqb m n) (λ q. rw (eqb-true m n q, get_or-set_same marks n v 0 (rw long l), at_last n, e))
      (λ q. rw (get_or-set_other marks n m v 0 (eqb-false m n q), tabulate-at (await_mark N A n) 0 128 m k, more-below n m (eqb-false m n q))))

module _ {net : List ℕ} {s : ℕ} {sheet leaders : List ℕ} {source transitions nodes : ℕ} (g : Ground net s sheet leaders source transitions nodes) where
  abbrev N : PetriNet
  N = only (net_by_rows net) s

  abbrev A : Automaton
  A = graph_by_rows net sheet

  row-offers : (n t : ℕ) → present (arc_entry_row net sheet n) t ≡ offers N A n t
  unfolding graph_by_rows offers arc_by_row found when
  row-offers n t = go (present (arc_entry_row net sheet n) t) _
    where
      go : (b : Bool) (m : ℕ) → b ≡ found (when b m)
      go true m = refl
      go false m = refl

  start : Passing net s sheet leaders source transitions nodes (replicate 128 0) 0
  start = record { ground = g; passed = first-none _; marks = none_below N A }

  pub row-tells : (n : ℕ) (row : List ℕ) (offer : Offer) → row ≡ arc_entry_row net sheet n → offer ≡ offer_of row leaders transitions → Tells N A n offer
  row-tells n row offer e f = rw (f, e) (offer-tells N A n (arc_entry_row net sheet n) leaders transitions (row-offers n) g.choices.leaders_are g.transitions_are
      (rw g.transitions_are at g.few_transitions))

-- no node is passed yet
pub none_passed : {net sheet leaders : List ℕ} {source transitions nodes : ℕ} → Walked net sheet leaders source transitions nodes (replicate 128 0) 0
none_passed = record { within = omega arith; passing = λ s g. start g }

-- ---- each way on

module _ {net : List ℕ} {s : ℕ} {sheet leaders : List ℕ} {source transitions nodes : ℕ} {awaits : List ℕ} {n : ℕ}
    (w : Passing net s sheet leaders source transitions nodes awaits n) where
  -- a refusal at node n
  pub refused-at : (a : NodesAnswer) (r : Refusal) → n < nodes → offer_fault (only (net_by_rows net) s) (graph_by_rows net sheet) n ≡ some r → a ≡ Err r
      → a ≡ task_nodes_reply net s sheet
  unfolding task_nodes_reply offers_fault
  refused-at a r l e h =
      rw (or_else-hit _ (when (not (awaits_below (only (net_by_rows net) s) (graph_by_rows net sheet) (graph_by_rows net sheet).nodes 0)) (refusal RootNotAwait (Node 0))) r
      (first-hit (offer_fault (only (net_by_rows net) s) (graph_by_rows net sheet)) n r w.passed e (graph_by_rows net sheet).nodes (rw w.ground.nodes_are at l)))
      h

  -- one whole choice set
  pub passes_at : (c v : ℕ) → n < nodes → Tells (only (net_by_rows net) s) (graph_by_rows net sheet) n (Whole c) → v ≡ bit (eqb c source)
      → Passing net s sheet leaders source transitions nodes (set awaits n v) (n + 1)
  passes_at c v l (t, a) e = record {
    ground = w.ground;
    passed = first_more _ n w.passed t;
    marks = rw w.marks
        (marks-more (only (net_by_rows net) s) (graph_by_rows net sheet) n v (let z = w.ground.few_nodes in omega arith) (e ∙ ap bit (rw w.ground.choices.source_is (sym a))));
  }

  all-marks : n ≡ nodes → awaits ≡ tabulate (await_mark (only (net_by_rows net) s) (graph_by_rows net sheet) (graph_by_rows net sheet).nodes) 128
  all-marks e = w.marks ∙ ap (λ (k : ℕ). tabulate (await_mark (only (net_by_rows net) s) (graph_by_rows net sheet) k) 128) (e ∙ w.ground.nodes_are)

  -- every node is passed: the root's mark tells
  rest : n ≡ nodes → offers_fault (only (net_by_rows net) s) (graph_by_rows net sheet) ≡ when (eqb (get_or awaits 0 0) 0) (refusal RootNotAwait (Node 0))
  unfolding offers_fault
  rest e =
      let q = e ∙ w.ground.nodes_are in
      or_else-next _ _ (rw q at w.passed)
      ∙ ap (λ (b : Bool). when b (refusal RootNotAwait (Node 0)))
      (root-mark (only (net_by_rows net) s) (graph_by_rows net sheet) (graph_by_rows net sheet).nodes ∙ ap (λ (l : List ℕ). eqb (get_or l 0 0) 0) (sym (all-marks e)))

  pub busy-root : (a : NodesAnswer) → n ≡ nodes → get_or awaits 0 0 ≡ 0 → a ≡ Err (refusal RootNotAwait (Node 0)) → a ≡ task_nodes_reply net s sheet
  unfolding task_nodes_reply when
  busy-root a e z h = rw (rest e, z) h

  pub all_pass : n ≡ nodes → 0 < get_or awaits 0 0 → Ok awaits ≡ task_nodes_reply net s sheet
  unfolding task_nodes_reply when await_marks
  all_pass e z = rw (rest e, ne_eqb (get_or awaits 0 0) 0 (λ x. omega arith)) (ap Ok (all-marks e))
