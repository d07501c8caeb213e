-- Sources and choice sets: all that is used of their definitions. Choice sets are the classes of an equivalence, the sources are one of them, and a class
-- that is not alone is closed.
use Rattle.scan.proofs.Basics.{ℕ, ◌<◌, arith, ◌≡◌, refl, sym, ◌∙◌, inl, inr, ⊎_elim, ◌↔◌, true, false, ◌&&◌, eqb}
use Rattle.scan.proofs.Tests.{eqb-true, eq-eqb, true-false, decides_not, or_left, or_right, or_cases}
use Rattle.automaton.specs.Equivalence.{leader_by}
use mathlib.Core.Logic.Iff
use Rattle.scan.proofs.Decide.{eqb↔, ltb↔, all↔, any↔, and↔, unless↔, equal↔}
use Rattle.automaton.proofs.Leader.{IsEquivalence, leader-ext, leader-member}
use Rattle.sequential.specs.Petri.{PetriNet, Transition, Source, TakesSame, SharesPlace, FreeChoice, SameChoice}
use Rattle.sequential.specs.Tests.{takes_nothing, is_source, takes_alike, takes_same, both_draw, shares_place, shares_alike, free_choice, same_choice}

module _ (N : PetriNet) where
  -- ---- the tests decide

  pub source↔ : (t : ℕ) → (is_source N t ≡ true) ↔ Source N t
  unfolding is_source takes_nothing
  source↔ t = and↔ (N.kept t) _ Iff.rfl (all↔ (takes_nothing N t) N.places (λ p l. eqb↔ _ _))

  takes↔ : (t u : ℕ) → (takes_same N t u ≡ true) ↔ TakesSame N t u
  unfolding takes_same takes_alike
  takes↔ t u = all↔ (takes_alike N t u) N.places (λ p l. eqb↔ _ _)

  shares↔ : (t u : ℕ) → (shares_place N t u ≡ true) ↔ SharesPlace N t u
  unfolding shares_place both_draw
  shares↔ t u =
      let (f, g) = any↔ {P = λ p. (0 < N.taken t p) × (0 < N.taken u p)} (both_draw N t u) N.places (λ p l. and↔ _ _ (ltb↔ _ _) (ltb↔ _ _)) in
      (λ e. let (p, l, (a, b)) = f e in (p, l, a, b), λ (p, l, a, b). g (p, l, (a, b)))

  pub free↔ : (t : ℕ) → (free_choice N t ≡ true) ↔ FreeChoice N t
  unfolding free_choice shares_alike
  free↔ t =
      let (f, g) = all↔ {P = λ u. (N.kept u ≡ true) × SharesPlace N t u → TakesSame N t u} (shares_alike N t) N.transitions
      (λ u l. let (h, k) = and↔ (N.kept u) (shares_place N t u) Iff.rfl (shares↔ t u) in unless↔ _ _ (decides_not _ h k) (takes↔ t u)) in
      (λ e u (l, k) s. f e u l (k, s), λ h. g (λ u l (k, s). h u (l, k) s))

  pub choice↔ : (t u : ℕ) → (same_choice N t u ≡ true) ↔ SameChoice N t u
  unfolding same_choice
  choice↔ t u =
      let (f, g) = and↔ (N.kept t) _ Iff.rfl (and↔ (N.kept u) _ Iff.rfl (and↔ _ _ (takes↔ t u) (free↔ t))) in (
        λ e. ⊎_elim (λ q. inl (eqb-true t u q)) (λ q. let (k, (j, (a, c))) = f q in inr (k, j, a, c))
            (or_cases (eqb t u) (N.kept t && (N.kept u && (takes_same N t u && free_choice N t))) e),
        ⊎_elim (λ q. or_left (eqb t u) _ (eq-eqb t u q)) (λ (k, j, a, c). or_right (eqb t u) _ (g (k, (j, (a, c))))),
      )

  -- ---- an equivalence

  takes-sym : (t u : ℕ) → TakesSame N t u → TakesSame N u t
  takes-sym t u h p l = sym (h p l)

  -- of two that take the same both choices are free or neither is
  free-alike : (t u : ℕ) → TakesSame N t u → FreeChoice N t → FreeChoice N u
  free-alike t u a c v l (p, m, x, y) q k = sym (a q k) ∙ c v l (p, m, rw (a p m) x, y) q k

  source_free : (t : ℕ) → Source N t → FreeChoice N t
  source_free t (k, s) u l (p, m, x, y) = absurd (omega (arith, s p m))

  pub choice-refl : (t : ℕ) → SameChoice N t t
  choice-refl t = inl refl

  pub choice-sym : (t u : ℕ) → SameChoice N t u → SameChoice N u t
  choice-sym t u = ⊎_elim (λ q. inl (sym q)) (λ (k, j, a, c). inr (j, k, takes-sym t u a, free-alike t u a c))

  pub choice-trans : (t u v : ℕ) → SameChoice N t u → SameChoice N u v → SameChoice N t v
  choice-trans t u v h k =
      ⊎_elim (λ q. rw q k) (λ (i, j, a, c). ⊎_elim (λ q. rw (← q) (inr (i, j, a, c))) (λ (m, o, b, d). inr (i, o, λ p l. a p l ∙ b p l, c)) k) h

  -- a source's choice set is the sources
  pub choice-source : (t u : ℕ) → Source N t → SameChoice N t u ↔ Source N u
  choice-source t u s = (
    ⊎_elim (λ q. rw (← q) s) (λ (i, j, a, c). (j, λ p l. sym (a p l) ∙ s.1 p l)),
    λ h. inr (s.0, h.0, λ p l. s.1 p l ∙ sym (h.1 p l), source_free t s),
  )

  -- ---- what a set that is not alone holds

  pub choice-takes : (t u : ℕ) → SameChoice N t u → TakesSame N t u
  choice-takes t u = ⊎_elim (λ q. rw q (λ p l. refl)) (λ (i, j, a, c). a)

  pub choice-closed : (t u v : ℕ) → SameChoice N t u → (t ≡ u → ⊥) → Transition N v → SharesPlace N t v → SameChoice N t v
  choice-closed t u v h d l s = ⊎_elim (λ q. absurd (d q)) (λ (i, j, a, c). inr (i, l.1, c v l s, c)) h

  pub choice-alone : (t u : ℕ) → (FreeChoice N t → ⊥) → SameChoice N t u → t ≡ u
  choice-alone t u o = ⊎_elim (λ q. q) (λ (i, j, a, c). absurd (o c))

  -- a member of a set that is kept is kept
  pub choice-kept : (t u : ℕ) → N.kept t ≡ true → SameChoice N t u → N.kept u ≡ true
  choice-kept t u k = ⊎_elim (λ q. rw (← q) k) (λ (i, j, a, c). j)

  pub choice-free : (t u : ℕ) → N.kept t ≡ true → N.kept u ≡ true → FreeChoice N t → SameChoice N t u ↔ TakesSame N t u
  choice-free t u i j c = (choice-takes t u, λ a. inr (i, j, a, c))

  -- ---- the same of the tests

  pub choice-equivalence : IsEquivalence (same_choice N)
  choice-equivalence = record {
    reflexive = λ t. (choice↔ t t).1 (choice-refl t);
    symmetric = λ t u h. (choice↔ u t).1 (choice-sym t u ((choice↔ t u).0 h));
    transitive = λ t u v h k. (choice↔ t v).1 (choice-trans t u v ((choice↔ t u).0 h) ((choice↔ u v).0 k));
  }

  takes-equivalence : IsEquivalence (takes_same N)
  takes-equivalence = record {
    reflexive = λ t. (takes↔ t t).1 (λ p l. refl);
    symmetric = λ t u h. (takes↔ u t).1 (takes-sym t u ((takes↔ t u).0 h));
    transitive = λ t u v h k. let a = (takes↔ t u).0 h in let b = (takes↔ u v).0 k in (takes↔ t v).1 (λ p l. a p l ∙ b p l);
  }

  pub source-choice : (t u : ℕ) → is_source N t ≡ true → same_choice N t u ≡ is_source N u
  source-choice t u h = equal↔ _ _ (choice↔ t u) (source↔ u) (choice-source t u ((source↔ t).0 h))

  pub source-is-free : (t : ℕ) → is_source N t ≡ true → free_choice N t ≡ true
  source-is-free t h = (free↔ t).1 (source_free t ((source↔ t).0 h))

  -- ---- least members

  -- the choice of all that take the same is asked of the least of them
  pub leader-free : (t : ℕ) → free_choice N (leader_by (takes_same N) t) ≡ free_choice N t
  leader-free t =
      let c = leader_by (takes_same N) t in
      let a = (takes↔ c t).0 (leader-member (takes_same N) takes-equivalence t) in
      equal↔ _ _ (free↔ c) (free↔ t) (free-alike c t a, free-alike t c (takes-sym c t a))

  -- where it is free and none is removed the least of them is that of the choice set, and where not a transition is its own
  pub leader-together : ((t : ℕ) → N.kept t ≡ true) → (t : ℕ) → free_choice N t ≡ true → leader_by (same_choice N) t ≡ leader_by (takes_same N) t
  leader-together k t c = leader-ext (same_choice N) (takes_same N) t
      (λ u l. equal↔ _ _ (choice↔ u t) (takes↔ u t) (choice-takes u t, λ a. inr (k u, k t, a, free-alike t u (takes-sym u t a) ((free↔ t).0 c))))

  pub leader-alone : (t : ℕ) → free_choice N t ≡ false → leader_by (same_choice N) t ≡ t
  leader-alone t o =
      let c = leader_by (same_choice N) t in
      let m : SameChoice N t c = choice-sym c t ((choice↔ c t).0 (leader-member (same_choice N) choice-equivalence t)) in
      sym (choice-alone t c (λ k. true-false (free_choice N t) ((free↔ t).1 k) o) m)
