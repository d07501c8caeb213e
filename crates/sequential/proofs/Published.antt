-- The published definition and §6.1: a schedule by that clause is one in the published sense (§6.12), and a published one whose states are all reached is one by the clause.
use Rattle.scan.proofs.Basics.{ℕ, ◌<◌, ◌≡◌, ◌↔◌, some, List, [], ◌∷◌}
use Rattle.automaton.specs.Automaton.{Automaton, Closed, follow}
use Rattle.automaton.specs.Reach.{Reachable}
use Rattle.automaton.proofs.Automaton.{follow-first, follow-lands}
use Rattle.sequential.specs.Petri.{PetriNet, Transition, Source, SameChoice}
use Rattle.sequential.specs.Schedule.{Offers, Await, OneChoiceSet, IsSchedule}
use Rattle.sequential.specs.Published.{InFCS, SequentialSchedule}
use Rattle.sequential.proofs.Choices.{choice-sym, choice-trans, choice-source}
use Rattle.sequential.proofs.FreeChoice.{choice-fcs}
use Rattle.sequential.proofs.Runs.{arc-below, arc-kept, from-root}

-- ---- a schedule in the published sense

module _ (N : PetriNet) (A : Automaton) (c : Closed A) (same : A.transitions ≡ N.transitions) (s : IsSchedule N A) where
  -- whichever member of the choice set is offered, the others are those of its own
  one_choice : (n t u : ℕ) → n < A.nodes → u < N.transitions → Offers N A n t → Offers N A n u ↔ InFCS N t u
  one_choice n t u l k (m, e) =
      let (v, j, h) = s.choices n l in
      let i = arc-kept N A c same s n t m l e in
      let q : SameChoice N v t = (h t i.0).0 (m, e) in
      let (f, g) = choice-fcs N t u i k in
      (λ o. f (choice-trans N t v u (choice-sym N v t q) ((h u k).0 o)), λ x. (h u k).1 (choice-trans N v t u q (g x)))

  pub sequential : SequentialSchedule N A
  unfolding Reachable
  sequential = record {
    maps = λ n l. let (σ, e) = s.reached n l in let (f, h) = from-root N A c same s σ n e in (σ, f, h);
    maps_root = s.starts;
    fires = λ n t m l e. (s.enables n t m l e, s.lands n t m l e);
    chooses = one_choice;
    sources = s.root_awaits;
    serves = λ n t l k h. let (σ, m, e, w) = s.returns n l in (σ, m, e, (w t k).1 h);
  }

-- ---- and back

module _ (N : PetriNet) (A : Automaton) (c : Closed A) (same : A.transitions ≡ N.transitions) (some-source : (t : ℕ) × (t < N.transitions) × Source N t)
    (q : SequentialSchedule N A) (reached : (n : ℕ) → n < A.nodes → Reachable A n) where
  -- where a path to an offered transition starts, something is offered
  offers-first : (σ : List ℕ) (n m t : ℕ) → follow A n σ ≡ some m → Offers N A m t → (u : ℕ) × Offers N A n u
  offers-first [] n m t e o = let z : n ≡ m = unfold follow in (cc) in (t, rw z o)
  offers-first (u ∷ σ) n m t e o = let (x, a, f) = follow-first A n u m σ e in (u, (x, a))

  -- an arc is by a member of a free-choice set
  arc-member : (n t m : ℕ) → n < A.nodes → A.arc n t ≡ some m → Transition N t
  arc-member n t m l e = let (C, f, x, y) = (q.chooses n t t l (arc-below N A c same n t m e) (m, e)).0 (m, e) in x.0

  chosen : (n t u : ℕ) → n < A.nodes → u < N.transitions → Offers N A n t → Offers N A n u ↔ SameChoice N t u
  chosen n t u l j (m, e) =
      let (f, g) = q.chooses n t u l j (m, e) in
      let (h, k) = choice-fcs N t u (arc-member n t m l e) j in
      (λ x. k (f x), λ y. g (h y))

  choices : (n : ℕ) → n < A.nodes → OneChoiceSet N A n
  choices n l =
      let (t, k, s) = some-source in
      let (σ, m, e, o) = q.serves n t l k s in
      let (u, (x, a)) = offers-first σ n m t e o in
      (u, arc-member n u x l a, λ v j. chosen n u v l j (x, a))

  -- a node that offers a source offers exactly the sources
  awaits : (n t : ℕ) → n < A.nodes → Source N t → Offers N A n t → Await N A n
  awaits n t l s o u j =
      let (f, g) = chosen n t u l j o in
      let (h, k) = choice-source N t u s in
      (λ x. h (f x), λ y. g (k y))

  pub published-schedule : IsSchedule N A
  published-schedule = record {
    starts = q.maps_root;
    choices = choices;
    root_awaits = q.sources;
    enables = λ n t m l e. (q.fires n t m l e).0;
    lands = λ n t m l e. (q.fires n t m l e).1;
    reached = reached;
    returns = λ n l.
        let (t, k, s) = some-source in
        let (σ, m, e, o) = q.serves n t l k s in
        (σ, m, e, awaits m t (follow-lands A c σ n m l e) s o);
  }
