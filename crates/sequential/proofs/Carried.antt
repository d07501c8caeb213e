-- Where a map carries the reached nodes of A onto those of M, M is a schedule exactly if every clause but reachability holds on the reached nodes of A.
use Rattle.scan.proofs.Basics.{ℕ, sym, ap, ◌∙◌, ◌↔◌, option_map, List}
use mathlib.Core.Option.{map-eq-some_iff}
use Rattle.automaton.specs.Automaton.{Automaton, Closed, follow}
use Rattle.automaton.specs.Reach.{Reachable}
use Rattle.automaton.proofs.Reach.{reachable-node, root-reachable, arc-reachable, follow-reachable}
use Rattle.automaton.proofs.Carried.{Carries, carried-follow, carried-reached, carried-arc}
use Rattle.sequential.specs.Petri.{PetriNet, fire}
use Rattle.sequential.specs.Schedule.{Offers, Await, OneChoiceSet, ToAwait, IsSchedule}
use Rattle.sequential.specs.OnReached.{HoldsOnReached}

module _ (N : PetriNet) {A M : Automaton} {f : ℕ → ℕ} (C : Carries A M f) where
  offers-carried : (n t : ℕ) → Reachable A n → Offers N M (f n) t ↔ Offers N A n t
  offers-carried n t r = (
    λ (j, e). let (m, a, q) = (map-eq-some_iff f (A.arc n t)).0 (sym (C.arcs n t r) ∙ e) in (m, a),
    λ (m, a). (f m, C.arcs n t r ∙ ap (option_map f) a),
  )

  choice-carried : (n : ℕ) → Reachable A n → OneChoiceSet N M (f n) ↔ OneChoiceSet N A n
  choice-carried n r = (
    λ (t, l, h). (t, l, λ u m. (λ o. (h u m).0 ((offers-carried n u r).1 o), λ c. (offers-carried n u r).0 ((h u m).1 c))),
    λ (t, l, h). (t, l, λ u m. (λ o. (h u m).0 ((offers-carried n u r).0 o), λ c. (offers-carried n u r).1 ((h u m).1 c))),
  )

  pub await-carried : (n : ℕ) → Reachable A n → Await N M (f n) ↔ Await N A n
  await-carried n r = (
    λ h t l. (λ o. (h t l).0 ((offers-carried n t r).1 o), λ s. (offers-carried n t r).0 ((h t l).1 s)),
    λ h t l. (λ o. (h t l).0 ((offers-carried n t r).0 o), λ s. (offers-carried n t r).1 ((h t l).1 s)),
  )

  returns-carried : (n : ℕ) → Reachable A n → ToAwait N M (f n) ↔ ToAwait N A n
  returns-carried n r = (
    λ (σ, j, h, w).
        let (m, a, q) = (map-eq-some_iff f (follow A n σ)).0 (sym (carried-follow C σ n r) ∙ h) in
        (σ, m, a, (await-carried m (follow-reachable A σ n m r a)).0 (rw q w)),
    λ (σ, m, h, w). (σ, f m, carried-follow C σ n r ∙ ap (option_map f) h, (await-carried m (follow-reachable A σ n m r h)).1 w),
  )

  pub carried-schedule : IsSchedule N M ↔ HoldsOnReached N A
  carried-schedule = (
    λ s. record {
      starts = sym (C.labels 0 (root-reachable A)) ∙ ap M.label C.root ∙ s.starts;
      choices = λ n r. (choice-carried n r).0 (s.choices (f n) (C.node n r));
      root_awaits = (await-carried 0 (root-reachable A)).0 (rw C.root s.root_awaits);
      enables = λ n t m r a. rw (C.labels n r) at (s.enables (f n) t (f m) (C.node n r) (C.arcs n t r ∙ ap (option_map f) a));
      lands = λ n t m r a.
          sym (C.labels m (arc-reachable A n t m r a)) ∙ s.lands (f n) t (f m) (C.node n r) (C.arcs n t r ∙ ap (option_map f) a) ∙
          ap (λ (x : List ℕ). fire N x t) (C.labels n r);
      returns = λ n r. (returns-carried n r).0 (s.returns (f n) (C.node n r));
    },
    λ s. record {
      starts = ap M.label (sym C.root) ∙ C.labels 0 (root-reachable A) ∙ s.starts;
      choices = λ i l. let (n, r, e) = C.onto i l in rw e at ((choice-carried n r).1 (s.choices n r));
      root_awaits = rw C.root at ((await-carried 0 (root-reachable A)).1 s.root_awaits);
      enables = λ i t j l e. let (n, m, r, p, a, q) = carried-arc C i t j l e in rw (← p, C.labels n r) (s.enables n t m r a);
      lands = λ i t j l e.
          let (n, m, r, p, a, q) = carried-arc C i t j l e in
          ap M.label (sym q) ∙ C.labels m (arc-reachable A n t m r a) ∙ s.lands n t m r a ∙ ap (λ (x : List ℕ). fire N x t) (sym (C.labels n r) ∙ ap M.label p);
      reached = carried-reached C;
      returns = λ i l. let (n, r, e) = C.onto i l in rw e at ((returns-carried n r).1 (s.returns n r));
    },
  )

-- the clauses of a schedule hold on its reached nodes too
pub schedule-on-reached : (N : PetriNet) (A : Automaton) → Closed A → IsSchedule N A → HoldsOnReached N A
schedule-on-reached N A c s = record {
  starts = s.starts;
  choices = λ n r. s.choices n (reachable-node A c n r);
  root_awaits = s.root_awaits;
  enables = λ n t m r. s.enables n t m (reachable-node A c n r);
  lands = λ n t m r. s.lands n t m (reachable-node A c n r);
  returns = λ n r. s.returns n (reachable-node A c n r);
}
