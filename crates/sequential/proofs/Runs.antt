-- Lists that a schedule allows: they can be fired from the initial marking, can be continued by one choice set, and some continuation leads to an await node.
use Rattle.scan.proofs.Basics.{ℕ, ◌<◌, ◌≡◌, sym, ap, ◌∙◌, true, some, List, [], ◌∷◌, ◌++◌, length}
use Rattle.scan.proofs.Tabulate.{tabulate-length}
use Rattle.automaton.specs.Automaton.{Automaton, Closed, follow, allows}
use Rattle.automaton.proofs.Automaton.{arc-transition, follow-first, follow-snoc, follow-lands, allows-follow, follow-allows}
use Rattle.sequential.specs.Petri.{PetriNet, initial, Transition, SameChoice, fire, fired_count, fire_all, FiresEnabled, fires_none, fires_first}
use Rattle.sequential.specs.Schedule.{IsSchedule}
use Rattle.sequential.specs.Runs.{Runs, GoesOn}
use Rattle.sequential.proofs.Choices.{choice-refl, choice-kept}

-- only a number of the net's transitions has an arc
pub arc-below : (N : PetriNet) (A : Automaton) → Closed A → A.transitions ≡ N.transitions → (n t m : ℕ) → A.arc n t ≡ some m → t < N.transitions
arc-below N A c same n t m e = rw same at (arc-transition A c n t m e)

-- firing keeps a count for each place
pub fire-all-length : (N : PetriNet) (m σ : List ℕ) → length m ≡ N.places → length (fire_all N m σ) ≡ N.places
unfolding fire_all fire
fire-all-length N m [] h = h
fire-all-length N m (t ∷ σ) h = fire-all-length N (fire N m t) σ (tabulate-length (fired_count N m t) N.places)

module _ (N : PetriNet) (A : Automaton) (c : Closed A) (same : A.transitions ≡ N.transitions) (s : IsSchedule N A) where
  -- and of a schedule only one that is kept
  pub arc-kept : (n t m : ℕ) → n < A.nodes → A.arc n t ≡ some m → Transition N t
  arc-kept n t m l e =
      let (v, (j, k), h) = s.choices n l in
      let b = arc-below N A c same n t m e in
      (b, choice-kept N v t k ((h t b).0 (m, e)))

  -- ---- firing along a list

  along : (σ : List ℕ) (n m : ℕ) → n < A.nodes → follow A n σ ≡ some m → FiresEnabled N (A.label n) σ × (fire_all N (A.label n) σ ≡ A.label m)
  unfolding fire_all
  along [] n m l e = let q : n ≡ m = unfold follow in (cc) in (fires_none _, ap A.label q)
  along (t ∷ σ) n m l e =
      let (x, a, f) = follow-first A n t m σ e in
      let (g, h) = along σ x m (c.lands n t x l a) f in
      let q = s.lands n t x l a in
      (fires_first _ t σ (arc-kept n t x l a) (s.enables n t x l a) (rw q at g), rw (← q) h)

  pub from-root : (σ : List ℕ) (m : ℕ) → follow A 0 σ ≡ some m → FiresEnabled N (initial N) σ × (fire_all N (initial N) σ ≡ A.label m)
  from-root σ m e = rw s.starts at (along σ 0 m c.root e)

  pub runs : (σ : List ℕ) → allows A 0 σ ≡ true → Runs N A σ
  runs σ a =
      let (m, e) = allows-follow A 0 σ a in
      let (f, h) = from-root σ m e in
      record { end = m; leads = e; enabled = f; holds = h }

  -- ---- going on

  pub goes_on : (σ : List ℕ) → allows A 0 σ ≡ true → GoesOn N A σ
  goes_on σ a =
      let (m, e) = allows-follow A 0 σ a in
      let (t, (l, i), h) = s.choices m (follow-lands A c σ 0 m c.root e) in
      let by : (u : ℕ) → u < N.transitions → SameChoice N t u → allows A 0 (σ ++ (u ∷ [])) ≡ true
      = λ u k q. let (x, b) = (h u k).1 q in follow-allows A 0 x (σ ++ (u ∷ [])) (follow-snoc A σ 0 m u e ∙ b) in
      record {
        end = m;
        leads = e;
        member = t;
        offered = (h t l).1 (choice-refl N t);
        extended = λ u. (
          λ b. let (x, f) = allows-follow A 0 (σ ++ (u ∷ [])) b in
              let q = sym (follow-snoc A σ 0 m u e) ∙ f in
              let k = arc-below N A c same m u x q in
              (k, (h u k).0 (x, q)),
          λ (k, q). by u k q,
        );
        goes = by t l (choice-refl N t);
      }
