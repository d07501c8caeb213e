-- The mended graph is a schedule if the counts fit, and the only one with these arcs.
use Rattle.scan.proofs.Basics.{ℕ, ◌≤◌, ◌<◌, ◌≡◌, refl, sym, ap, ◌∙◌, true, ltb, some, List, [], length, get_or}
use Rattle.scan.proofs.Tests.{ltb-true, ltb-false, lt-ltb, le-ltb, leb-true, le-leb, eqb-true, eq-eqb, by_test, and_left, and_right, and_both}
use Rattle.scan.specs.Scan.{all}
use Rattle.scan.proofs.Every.{all_in, all-out}
use Rattle.scan.proofs.Tabulate.{tabulate-at, tabulate-is, tabulate-length}
use Rattle.automaton.specs.Automaton.{Automaton, Closed}
use Rattle.automaton.specs.Reach.{Reachable}
use Rattle.automaton.specs.Quotient.{Confined}
use Rattle.automaton.proofs.Automaton.{arc-cases, arc-transition}
use Rattle.refusal.specs.Limits.{most_entries, most_count}
use Rattle.sequential.specs.Petri.{PetriNet, initial, fired_count, fire, fire_all, Enabled}
use Rattle.sequential.specs.Words.{graph}
use Rattle.sequential.specs.Tests.{enabled}
use Rattle.sequential.specs.Schedule.{Await, OneChoiceSet, ToAwait, IsSchedule}
use Rattle.sequential.specs.Known.{ArcsHold}
use Rattle.sequential.proofs.Clauses.{enabled↔}
use Rattle.sequential.proofs.Entries.{graph-closed}
use Rattle.sequential.proofs.Runs.{from-root, fire-all-length}
use Rattle.encoding.specs.Encoding.{held, keys, Encodable}
use Rattle.encoding.proofs.Reading.{graph-confined}
use Rattle.mended.specs.Arcs.{SameArcs}
use Rattle.mended.specs.Routes.{route}
use Rattle.mended.specs.Counts.{worked_out, new_count, mended_graph, lands_at, arc_fits, within_limit, node_fits, counts_fit}
use Rattle.mended.proofs.Routes.{route-root, route-leads}
use Rattle.mended.proofs.Bare.{same-sym, same-follow, same-reachable, same-choices, same-awaits, same-returns}

-- ---- rows

module _ (N : PetriNet) (A : Automaton) where
  pub worked-length : (n : ℕ) → length (worked_out N A n) ≡ N.places
  unfolding worked_out
  worked-length n = fire-all-length N (initial N) (route A n) (unfold initial in (tabulate-length N.start N.places))

  pub worked-root : Closed A → worked_out N A 0 ≡ initial N
  unfolding worked_out fire_all
  worked-root c = ap (fire_all N (initial N)) (route-root A c)

  -- ---- the same arcs

  pub mended-same : SameArcs A (mended_graph N A)
  unfolding mended_graph
  mended-same = record { nodes = refl; transitions = refl; arcs = λ n t. refl }

  pub mended-label : (n : ℕ) → n < A.nodes → (mended_graph N A).label n ≡ worked_out N A n
  unfolding mended_graph
  mended-label n l = rw (lt-ltb n A.nodes l)

  mended-past : (n : ℕ) → A.nodes ≤ n → (mended_graph N A).label n ≡ []
  unfolding mended_graph
  mended-past n l = rw (le-ltb n A.nodes l)

  -- ---- the test of an arc

  arc-out : (n t m : ℕ) → A.arc n t ≡ some m → arc_fits N A n t ≡ true → Enabled N (worked_out N A n) t × (worked_out N A m ≡ fire N (worked_out N A n) t)
  unfolding arc_fits lands_at new_count fire
  arc-out n t m e h =
      let g = rw e at h in (
        (enabled↔ N _ _).0 (and_left (enabled N (worked_out N A n) t) _ g),
        tabulate-is (fired_count N (worked_out N A n) t) 0 N.places (worked_out N A m) (worked-length m)
            (λ p l. eqb-true _ _ (all-out (lands_at N A n t m) N.places (and_right (enabled N (worked_out N A n) t) _ g) p l)),
      )

  arc-in : (n t : ℕ) → ((m : ℕ) → A.arc n t ≡ some m → Enabled N (worked_out N A n) t × (worked_out N A m ≡ fire N (worked_out N A n) t)) → arc_fits N A n t ≡ true
  unfolding arc_fits lands_at new_count fire
  arc-in n t h =
      arc-cases (A.arc n t) (λ e. rw e)
      (λ m e. rw e (and_both _ _ ((enabled↔ N _ _).1 (h m e).0) (all_in (lands_at N A n t m) N.places
      (λ p l. eq-eqb _ _ (ap (λ (x : List ℕ). get_or x p 0) (h m e).1 ∙ tabulate-at (fired_count N (worked_out N A n) t) 0 N.places p l)))))

  -- ---- a schedule with these arcs is the mended graph

  module _ (B : Automaton) (s : SameArcs A B) (c : Closed A) (d : Closed B) (f : Confined B) (same : B.transitions ≡ N.transitions) (i : IsSchedule N B) where
    all-reached : (n : ℕ) → n < A.nodes → Reachable A n
    all-reached n l = same-reachable B A (same-sym A B s) n (i.reached n (rw s.nodes at l))

    -- what firing along the route gives is what the node holds, whatever the schedule
    worked-is : (n : ℕ) → n < A.nodes → worked_out N A n ≡ B.label n
    unfolding worked_out
    worked-is n l = (from-root N B d same i (route A n) n (sym (same-follow A B s (route A n) 0) ∙ route-leads A c n l (all-reached n l))).1

    mended-label-is : (n : ℕ) → (mended_graph N A).label n ≡ B.label n
    mended-label-is n =
        by_test (ltb n A.nodes) (λ e. let l = ltb-true n A.nodes e in mended-label n l ∙ worked-is n l)
        (λ e. let l = ltb-false n A.nodes e in mended-past n l ∙ sym (f.labels n (rw s.nodes at l)))

    pub mended-is : mended_graph N A ≡ B
    unfolding mended_graph
    mended-is = λ j. record { nodes = s.nodes j; transitions = s.transitions j; arc = λ n t. s.arcs n t j; label = λ n. mended-label-is n j }

    -- ---- and its counts fit

    module _ (E : Encodable N B) where
      arc-fits : (n t : ℕ) → n < A.nodes → arc_fits N A n t ≡ true
      arc-fits n t l = arc-in n t (λ m e.
          let b = sym (s.arcs n t) ∙ e in
          let k : n < B.nodes = rw s.nodes at l in
          rw (worked-is n l, worked-is m (c.lands n t m l e)) (i.enables n t m k b, i.lands n t m k b))

      within : (n p : ℕ) → n < A.nodes → p < N.places → within_limit N A n p ≡ true
      unfolding within_limit new_count
      within n p l k = rw (worked-is n l) (le-leb (get_or (B.label n) p 0) most_count (unfold held in (E.most n p (rw s.nodes at l) k)))

      pub counts-fit : counts_fit N A ≡ true
      unfolding counts_fit node_fits
      counts-fit =
          and_both _ _
          (all_in (node_fits N A) A.nodes (λ n l. and_both _ _ (all_in (within_limit N A n) N.places (λ p k. within n p l k)) (all_in (arc_fits N A n) N.transitions (λ t k. arc-fits n t l))))
          (rw mended-is (le-leb (length (keys N B)) most_entries E.few_entries))

-- ---- where the counts fit

module _ (N : PetriNet) (A : Automaton) (c : Closed A) (same : A.transitions ≡ N.transitions) (h : counts_fit N A ≡ true) where
  node-fits : (n : ℕ) → n < A.nodes → node_fits N A n ≡ true
  unfolding counts_fit
  node-fits n l = all-out (node_fits N A) A.nodes (and_left (all (node_fits N A) A.nodes) _ h) n l

  fits : (n t m : ℕ) → n < A.nodes → A.arc n t ≡ some m → Enabled N (worked_out N A n) t × (worked_out N A m ≡ fire N (worked_out N A n) t)
  unfolding node_fits
  fits n t m l e =
      arc-out N A n t m e (all-out (arc_fits N A n) N.transitions (and_right (all (within_limit N A n) N.places) _ (node-fits n l)) t (rw same at (arc-transition A c n t m e)))

  pub worked-enables : (n t m : ℕ) → n < A.nodes → A.arc n t ≡ some m → Enabled N (worked_out N A n) t
  worked-enables n t m l e = (fits n t m l e).0

  pub worked-lands : (n t m : ℕ) → n < A.nodes → A.arc n t ≡ some m → worked_out N A m ≡ fire N (worked_out N A n) t
  worked-lands n t m l e = (fits n t m l e).1

  pub worked-most : (n p : ℕ) → n < A.nodes → p < N.places → new_count N A n p ≤ most_count
  unfolding node_fits within_limit
  worked-most n p l k = leb-true _ _ (all-out (within_limit N A n) N.places (and_left (all (within_limit N A n) N.places) _ (node-fits n l)) p k)

  pub few_entries : length (keys N (mended_graph N A)) ≤ most_entries
  unfolding counts_fit
  few_entries = leb-true _ _ (and_right (all (node_fits N A) A.nodes) _ h)

-- the clauses of a schedule that speak of arcs alone
pub record ArcsPass (N : PetriNet) (A : Automaton) : Type 0 where
  pub choices : (n : ℕ) → n < A.nodes → OneChoiceSet N A n
  pub root_awaits : Await N A 0
  pub reached : (n : ℕ) → n < A.nodes → Reachable A n
  pub returns : (n : ℕ) → n < A.nodes → ToAwait N A n

module _ (N : PetriNet) (sheet : List ℕ) (T : 0 < N.transitions) (w : ArcsHold N sheet) (h : counts_fit N (graph N sheet) ≡ true) where
  abbrev A : Automaton
  A = graph N sheet

  abbrev M : Automaton
  M = mended_graph N (graph N sheet)

  closed : Closed A
  closed = graph-closed N sheet T w

  mended-closed : Closed M
  unfolding mended_graph
  mended-closed = record { root = closed.root; lands = closed.lands; bounded = closed.bounded }

  mended-most : (n p : ℕ) → n < A.nodes → p < N.places → held N M n p ≤ most_count
  unfolding held
  mended-most n p l k = rw (mended-label N A n l) (unfold new_count in (worked-most N A closed refl h n p l k))

  pub mended-encodable : Encodable N M
  mended-encodable = record {
    transitions = unfold mended_graph in refl;
    few_nodes = unfold mended_graph in w.shape.few_nodes;
    few_entries = few_entries N A closed refl h;
    closed = mended-closed;
    confined = record { arcs = unfold mended_graph in (graph-confined N sheet).arcs; labels = unfold mended_graph in (mended-past N A) };
    places = λ n l. ap length (mended-label N A n (unfold mended_graph in l)) ∙ worked-length N A n;
    most = λ n p l k. mended-most n p (unfold mended_graph in l) k;
  }

  pub mended-schedule : ArcsPass N A → IsSchedule N M
  unfolding mended_graph
  mended-schedule g = record {
    starts = mended-label N A 0 closed.root ∙ worked-root N A closed;
    choices = λ n l. same-choices A M (mended-same N A) N n (g.choices n l);
    root_awaits = same-awaits A M (mended-same N A) N 0 g.root_awaits;
    enables = λ n t m l e. rw (mended-label N A n l) (worked-enables N A closed refl h n t m l e);
    lands = λ n t m l e. rw (mended-label N A n l, mended-label N A m (closed.lands n t m l e)) (worked-lands N A closed refl h n t m l e);
    reached = λ n l. same-reachable A M (mended-same N A) n (g.reached n l);
    returns = λ n l. same-returns A M (mended-same N A) N n (g.returns n l);
  }
