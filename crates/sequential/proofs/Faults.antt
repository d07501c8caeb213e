-- 10 to 17, with 27: the tests decide the clauses.
use Rattle.refusal.specs.declared.Reason.TheVariants.{NotHeld, OverCapacity, WrongTarget}
use Rattle.scan.proofs.Basics.{ℕ, ◌-◌, ◌<◌, ◌≡◌, sym, ap, ◌∙◌, ◌↔◌, true, false, not, none, List, get_or}
use Rattle.scan.proofs.Tests.{eqb-true, eq-eqb, decides_not, decides-unless}
use Rattle.scan.specs.Scan.{or_else, when, first}
use Rattle.scan.proofs.First.{first_one}
use Rattle.scan.proofs.Tabulate.{tabulate-at, tabulate-ext}
use Rattle.automaton.specs.Automaton.{Automaton}
use Rattle.automaton.specs.Reach.{Reachable, Leads, reached_in, leads_in}
use Rattle.automaton.proofs.Automaton.{arc-transition}
use Rattle.automaton.proofs.Reach.{reached↔reachable}
use Rattle.automaton.proofs.Lead.{leads_in↔leads}
use Rattle.refusal.specs.Refusal.{refusal}
use Rattle.refusal.specs.Finding.{found_at, found_by, line_finds, finding}
use Rattle.refusal.specs.declared.Position.TheVariants.{Entry}
use Rattle.refusal.proofs.Checks.{Decides, Decided, Lawful, Tells, finding-tells}
use Rattle.scan.proofs.Decide.{eqb↔, ltb↔, all↔}
use Rattle.sequential.specs.Petri.{PetriNet, initial, fire, fired_count, HoldsTaken, HasRoom}
use Rattle.sequential.specs.Words.{node_count, entry_count, entry_value, count_at, marking, graph, is_arc, arc_node, arc_transition, entry_key, arc_keys}
use Rattle.sequential.specs.Schedule.{Offers, ToAwait}
use Rattle.sequential.specs.Tests.{is_await, offers_some}
use Rattle.sequential.specs.Checks.{graph_checks}
use Rattle.sequential.specs.Check.{start_fault, node_fault, root_fault, arc_holds, arc_has_room, lands_at, arc_lands, arc_fault, reach_fault, return_fault, graph_tests, graph_fault}
use Rattle.sequential.specs.Known.{ArcsHold}
use Rattle.sequential.proofs.Entries.{graph-closed, entry-target, marking-node, marking-at}
use Rattle.sequential.proofs.Clauses.{holds↔, room↔, await↔, some_out, some_in, one_out, one_in}

-- a path to a node that passes the test is one to an await node
pub leads-await : (N : PetriNet) (A : Automaton) (n : ℕ) → Leads A (is_await N A) n ↔ ToAwait N A n
unfolding Leads
leads-await N A n = (λ (σ, m, e, g). (σ, m, e, (await↔ N A m).0 g), λ (σ, m, e, g). (σ, m, e, (await↔ N A m).1 g))

-- ---- markings, place by place

module _ (N : PetriNet) (sheet : List ℕ) where
  pub start-marking : 0 < node_count sheet → (marking N sheet 0 ≡ initial N) ↔ ((p : ℕ) → p < N.places → count_at N sheet 0 p ≡ N.start p)
  unfolding initial
  start-marking z = (
    λ e p l. sym (marking-at N sheet 0 p z l) ∙ ap (λ (x : List ℕ). get_or x p 0) e ∙ tabulate-at N.start 0 N.places p l,
    λ h. marking-node N sheet 0 z ∙ tabulate-ext (count_at N sheet 0) N.start N.places h,
  )

  pub fired-marking : (m t : ℕ) (before : List ℕ) → m < node_count sheet
      → (marking N sheet m ≡ fire N before t) ↔ ((p : ℕ) → p < N.places → count_at N sheet m p ≡ fired_count N before t p)
  unfolding fire
  fired-marking m t before l = (
    λ e p k. sym (marking-at N sheet m p l k) ∙ ap (λ (x : List ℕ). get_or x p 0) e ∙ tabulate-at (fired_count N before t) 0 N.places p k,
    λ h. marking-node N sheet m l ∙ tabulate-ext (count_at N sheet m) (fired_count N before t) N.places h,
  )

  -- ---- an entry that is an arc

  pub is_arc↔ : (i : ℕ) → (is_arc N sheet i ≡ true) ↔ entry_key sheet i < arc_keys N sheet
  unfolding is_arc
  is_arc↔ i = ltb↔ _ _

  arc_holds↔ : (i : ℕ) → (arc_holds N sheet i ≡ true) ↔ HoldsTaken N (marking N sheet (arc_node N sheet i)) (arc_transition N sheet i)
  unfolding arc_holds
  arc_holds↔ i = holds↔ N _ _

  arc_has_room↔ : (i : ℕ) → (arc_has_room N sheet i ≡ true) ↔ HasRoom N (marking N sheet (arc_node N sheet i)) (arc_transition N sheet i)
  unfolding arc_has_room
  arc_has_room↔ i = room↔ N _ _

  -- what is found at an entry that is an arc, and that nothing is at another
  pub arc-fault : (i : ℕ) → is_arc N sheet i ≡ true
      → arc_fault N sheet i ≡ or_else (when (not (arc_holds N sheet i)) (refusal NotHeld (Entry i)))
      (or_else (when (not (arc_has_room N sheet i)) (refusal OverCapacity (Entry i))) (when (not (arc_lands N sheet i)) (refusal WrongTarget (Entry i))))
  unfolding arc_fault line_finds found_at
  arc-fault i e = rw e

  pub no-arc-fault : (i : ℕ) → is_arc N sheet i ≡ false → arc_fault N sheet i ≡ none
  unfolding arc_fault line_finds found_at or_else when
  no-arc-fault i e = rw e

  -- 10 to 17, with 27, one after the other
  pub graph-fault : graph_fault N sheet
      ≡ or_else (first (start_fault N sheet) N.places) (or_else (first (node_fault N sheet) (node_count sheet)) (or_else (root_fault N sheet)
      (or_else (first (arc_fault N sheet) (entry_count sheet)) (or_else (first (reach_fault N sheet) (node_count sheet)) (first (return_fault N sheet) (node_count sheet))))))
  unfolding graph_fault finding found_by start_fault node_fault root_fault arc_fault reach_fault return_fault line_finds
  graph-fault = rw (first_one)

  module _ (T : 0 < N.transitions) (w : ArcsHold N sheet) where
    arc_lands↔ : (i : ℕ) → i < entry_count sheet → entry_key sheet i < arc_keys N sheet
        → (arc_lands N sheet i ≡ true) ↔ (marking N sheet (entry_value sheet i) ≡ fire N (marking N sheet (arc_node N sheet i)) (arc_transition N sheet i))
    unfolding arc_lands lands_at
    arc_lands↔ i l a =
        let (f, g) = fired-marking (entry_value sheet i) (arc_transition N sheet i) (marking N sheet (arc_node N sheet i)) (entry-target N sheet T w i l ((is_arc↔ i).1 a)) in
        let (h, k) = all↔ (lands_at N sheet i) N.places (λ p l. eqb↔ _ _) in
        (λ e. g (h e), λ e. k (f e))

    pub offers-in : (n t : ℕ) → Offers N (graph N sheet) n t → offers_some N (graph N sheet) n ≡ true
    offers-in n t (m, e) = some_in N (graph N sheet) n t (arc-transition (graph N sheet) (graph-closed N sheet T w) n t m e) (m, e)

    pub reached↔ : (n : ℕ) → (reached_in (graph N sheet) (node_count sheet - 1) n ≡ true) ↔ Reachable (graph N sheet) n
    reached↔ n = reached↔reachable (graph N sheet) (graph-closed N sheet T w) n

    pub leads↔ : (n : ℕ) → n < node_count sheet → (leads_in (graph N sheet) (is_await N (graph N sheet)) (node_count sheet - 1) n ≡ true) ↔ ToAwait N (graph N sheet) n
    leads↔ n l =
        let (f, g) = leads_in↔leads (graph N sheet) (is_await N (graph N sheet)) (graph-closed N sheet T w) n l in
        (λ h. (leads-await N (graph N sheet) n).0 (f h), λ a. g ((leads-await N (graph N sheet) n).1 a))

    graph-lawful : Lawful Unit (graph_checks N sheet) (graph_tests N sheet)
    unfolding Lawful Decided Decides
    graph-lawful = (
      λ h p l. (decides_not _ (eqb-true _ _) (eq-eqb _ _), λ x. tt),
      (
        λ h n l. (
          decides_not _ (λ e. let (t, k, o) = some_out N (graph N sheet) n e in (t, o)) (λ (t, o). offers-in n t o),
          λ (t, o). (decides_not _ (one_out N (graph N sheet) n (offers-in n t o)) (one_in N (graph N sheet) n), λ x. tt),
        ),
        (
          λ h n l. (decides_not _ (await↔ N (graph N sheet) n).0 (await↔ N (graph N sheet) n).1, λ x. tt),
          (
            λ h i l. (
              decides-unless _ _ (is_arc↔ i) (λ a. arc_holds↔ i),
              λ e. (decides-unless _ _ (is_arc↔ i) (λ a. arc_has_room↔ i), λ f. (decides-unless _ _ (is_arc↔ i) (arc_lands↔ i l), λ x. tt)),
            ),
            (
              λ h n l. (decides_not _ (reached↔ n).0 (reached↔ n).1, λ x. tt),
              (λ h n l. (decides_not _ (leads↔ n l).0 (leads↔ n l).1, λ x. tt), tt),
            ),
          ),
        ),
      ),
    )

    pub graph-tells : Tells (graph_fault N sheet) (graph_checks N sheet)
    unfolding graph_fault
    graph-tells = finding-tells Unit (graph_checks N sheet) (graph_tests N sheet) graph-lawful tt
