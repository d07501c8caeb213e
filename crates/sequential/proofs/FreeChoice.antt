-- The published free-choice sets are the choice sets: §5.5.
use Rattle.scan.proofs.Basics.{ℕ, ◌<◌, arith, ◌≡◌, refl, sym, ◌∙◌, inl, inr, ◌↔◌, Bool, true, ◌&&◌, ltb, eqb}
use Rattle.scan.proofs.Tests.{ltb-true, ltb-false, eqb-true, eqb-false, by_test, true-false, iff→eq, and_left, and_right, and_both}
use Rattle.scan.specs.Scan.{any}
use Rattle.scan.proofs.Every.{any_out, any-before}
use Rattle.sequential.specs.Petri.{PetriNet, Transition, Source, SharesPlace, SameChoice}
use Rattle.sequential.specs.Tests.{same_choice}
use Rattle.sequential.specs.Published.{Member, FreeWithin, FreeChoiceSet, InFCS, ChoiceSetOf}
use Rattle.sequential.proofs.Choices.{choice↔, choice-refl, choice-sym, choice-trans, choice-takes, choice-closed, choice-kept}

module _ (N : PetriNet) where
  -- a transition that is no source draws on some place
  draws : (t : ℕ) → N.kept t ≡ true → (Source N t → ⊥) → SharesPlace N t t
  draws t k h =
      by_test (any (takes t) N.places)
      (λ e. let (p, l, q) = any_out (takes t) N.places e in let z = ltb-true 0 (N.taken t p) q in (p, l, z, z))
      (λ e. absurd (h (k, λ p l. let z = ltb-false 0 (N.taken t p) (any-before (takes t) N.places e p l) in omega arith)))
    where
      takes : ℕ → ℕ → Bool
      takes t p = ltb 0 (N.taken t p)

  -- a set that meets the condition lies within the choice set of each of its members
  inside : (C : ℕ → Bool) → FreeWithin N C → (t u : ℕ) → Member N C t → Member N C u → SameChoice N t u
  inside C f t u x y =
      by_test (eqb t u) (λ e. inl (eqb-true t u e))
      (λ e.
      let (a, b) = f t u x y (eqb-false t u e) in
      inr (
        x.0.1,
        y.0.1,
        a,
        λ v l (p, m, h, k). by_test (eqb t v) (λ q. rw (eqb-true t v q) (λ p l. refl))
            (λ q. (f t v x (l, (b (λ z. omega (arith, z.1 p m)) v l).1 (p, m, h, k)) (eqb-false t v q)).0),
      ))

  -- and a choice set meets it
  class-free : (t : ℕ) → FreeWithin N (same_choice N t)
  class-free t t₁ t₂ (l, x) (m, y) d =
      let back : SameChoice N t₁ t = choice-sym N t t₁ ((choice↔ N t t₁).0 x) in
      let c : SameChoice N t₁ t₂ = choice-trans N t₁ t t₂ back ((choice↔ N t t₂).0 y) in (
        choice-takes N t₁ t₂ c,
        λ n u k. (
          λ e.
              let a = choice-takes N t₁ u (choice-trans N t₁ t u back ((choice↔ N t u).0 e)) in
              let (p, j, h, i) = draws t₁ l.1 n in
              (p, j, h, rw (a p j) at h),
          λ z. (choice↔ N t u).1 (choice-trans N t t₁ u ((choice↔ N t t₁).0 x) (choice-closed N t₁ t₂ u c d k z)),
        ),
      )

  class-set : (t : ℕ) → Transition N t → FreeChoiceSet N (same_choice N t)
  class-set t l = record {
    free = class-free t;
    maximal = λ D f w u (m, e). (m, (choice↔ N t u).1 (inside D f t u (w t (l, (choice↔ N t t).1 (choice-refl N t))) (m, e)));
  }

  -- a free-choice set is the choice set of each of its members
  pub set-class : (C : ℕ → Bool) → FreeChoiceSet N C → (t : ℕ) → Member N C t → ChoiceSetOf N t C
  set-class C f t x u l = (
    λ e. inside C f.free t u x (l, e),
    λ h. (f.maximal (same_choice N t) (class-free t) (λ v y. (y.0, (choice↔ N t v).1 (inside C f.free t v x y))) u (l, (choice↔ N t u).1 h)).1,
  )

  -- the condition speaks of the members alone
  same-members : (C D : ℕ → Bool) → ((u : ℕ) → Transition N u → C u ≡ D u) → FreeChoiceSet N C → FreeChoiceSet N D
  same-members C D h f = record {
    free = λ t u (l, x) (m, y) d.
        let (a, b) = f.free t u (l, h t l ∙ x) (m, h u m ∙ y) d in
        (a, λ n v k. (λ e. (b n v k).0 (h v k ∙ e), λ z. sym (h v k) ∙ (b n v k).1 z));
    maximal = λ E g w u y. let (l, e) = f.maximal E g (λ v (m, x). w v (m, sym (h v m) ∙ x)) u y in (l, sym (h u l) ∙ e);
  }

  pub choice-set : (C : ℕ → Bool) (t : ℕ) → Transition N t → ChoiceSetOf N t C → FreeChoiceSet N C
  choice-set C t l h =
      same-members (same_choice N t) C (λ u m. iff→eq (same_choice N t u) (C u) (λ e. (h u m).1 ((choice↔ N t u).0 e)) (λ e. (choice↔ N t u).1 ((h u m).0 e))) (class-set t l)

  pub choice-fcs : (t u : ℕ) → Transition N t → u < N.transitions → SameChoice N t u ↔ InFCS N t u
  choice-fcs t u l m = (
    λ h. (same_choice N t, class-set t l, (l, (choice↔ N t t).1 (choice-refl N t)), ((m, choice-kept N t u l.1 h), (choice↔ N t u).1 h)),
    λ (C, f, x, y). (set-class C f t x u y.0).0 y.1,
  )

  -- of a net with a source none is empty
  pub set-some : (s : ℕ) → Transition N s → (C : ℕ → Bool) → FreeChoiceSet N C → (t : ℕ) × Member N C t
  set-some s l C f =
      by_test (any member N.transitions)
      (λ e. let (t, m, x) = any_out member N.transitions e in (t, ((m, and_left (N.kept t) _ x), and_right (N.kept t) _ x)))
      (λ e. (
        s,
        f.maximal (same_choice N s) (class-free s)
            (λ t ((m, k), x). true-false (member t) (and_both (N.kept t) _ k x) (any-before member N.transitions e t m)) s (l, (choice↔ N s s).1 (choice-refl N s)),
      ))
    where
      member : ℕ → Bool
      member t = N.kept t && C t
