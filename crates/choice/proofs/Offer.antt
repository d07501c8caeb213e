-- What a node offers, from its row of arcs and the table of choice sets: 11, 12, or one whole choice set, which tells whether the node is an await node.
use Rattle.refusal.specs.declared.Reason.TheVariants.{NoArc, NotOneChoiceSet}
use Rattle.scan.proofs.Basics.{ℕ, ◌≤◌, ◌<◌, arith, ◌≡◌, refl, sym, ap, ◌∙◌, true, false, ◌&&◌, ltb, eqb, none, some, List, get_or}
use mathlib.Core.Bool.{beq}
use Rattle.scan.proofs.Tests.{ltb-true, ltb-false, lt-ltb, le-ltb, by_test, iff→eq, and_left, and_right}
use Rattle.scan.specs.Scan.{or_else, when, all, least}
use Rattle.scan.proofs.Every.{all-ext, all-fails, any-in, any_none}
use Rattle.scan.proofs.Least.{least-hit, least-low, least-ext}
use Rattle.refusal.specs.Refusal.{refusal}
use Rattle.refusal.specs.declared.Position.TheVariants.{Node}
use Rattle.automaton.specs.Automaton.{Automaton}
use Rattle.sequential.specs.Petri.{PetriNet}
use Rattle.sequential.specs.Tests.{is_source, same_choice, offers, offers_as_source, is_await, offers_some, first_offered, offers_as_choice, offers_one_choice_set}
use Rattle.sequential.proofs.Choices.{choice-equivalence, source-choice}
use Rattle.choice.specs.Rows.{present}
use Rattle.choice.specs.Choices.{choice_of, first_source, present_as_choice, offer_from, offer_of}
use Rattle.choice.specs.Nodes.{offer_fault}
use Rattle.choice.specs.declared.offers.Offer.{Offer}
use Rattle.choice.specs.declared.offers.Offer.TheVariants.{Nothing, Whole, Torn}
use Rattle.choice.proofs.Choices.{kept-choice, removed-choice, choice_test, source-test}

-- ---- nodes and what they offer first

module _ (N : PetriNet) (A : Automaton) (n : ℕ) where
  abbrev f : ℕ
  f = first_offered N A n

  no-offer : N.transitions ≤ f → offers_some N A n ≡ false
  unfolding offers_some first_offered
  no-offer h = any_none (offers N A n) N.transitions (λ t l. least-low (offers N A n) N.transitions t (omega arith))

  first-offers : f < N.transitions → offers N A n f ≡ true
  unfolding first_offered
  first-offers h = least-hit (offers N A n) N.transitions h

  some-offer : f < N.transitions → offers_some N A n ≡ true
  unfolding offers_some
  some-offer h = any-in (offers N A n) N.transitions f h (first-offers h)

  -- a node that offers one whole choice set is an await node exactly if a member is a source
  pub one-awaits : f < N.transitions → offers_one_choice_set N A n ≡ true → is_await N A n ≡ is_source N f
  unfolding is_await offers_as_source offers_one_choice_set offers_as_choice
  one-awaits l q = let h = and_right (N.kept f) _ q in by_test (is_source N f)
      (λ e. all-ext (offers_as_source N A n) (offers_as_choice N A n) N.transitions (λ t k. ap (beq (offers N A n t)) (sym (source-choice N f t e))) ∙ h ∙ sym e)
      (λ e. all-fails (offers_as_source N A n) N.transitions f l (rw (first-offers l, e)) ∙ sym e)

-- ---- rows

-- what is found at a node, by what its row offers
abbrev pub Tells : PetriNet → Automaton → ℕ → Offer → Type 0
Tells N A n Nothing = offer_fault N A n ≡ some (refusal NoArc (Node n))
Tells N A n Torn = offer_fault N A n ≡ some (refusal NotOneChoiceSet (Node n))
Tells N A n (Whole c) = (offer_fault N A n ≡ none) × (is_await N A n ≡ eqb c (first_source N))

module _ (N : PetriNet) (A : Automaton) (n : ℕ) (row leaders : List ℕ) (T : ℕ) (offered : (t : ℕ) → present row t ≡ offers N A n t)
    (leader-is : (t : ℕ) → t < N.transitions → get_or leaders t 0 ≡ choice_of N t) (all_of : T ≡ N.transitions) (few : N.transitions ≤ 32) where
  first-is : least (present row) T ≡ first_offered N A n
  unfolding first_offered
  first-is = rw all_of (least-ext (present row) (offers N A n) N.transitions (λ t l. offered t))

  -- the row has exactly the arcs of u's choice set
  as-choice : (u : ℕ) → u < N.transitions → N.kept u ≡ true → (t : ℕ) → t < N.transitions → present_as_choice row leaders (get_or leaders u 0) t ≡ beq (offers N A n t) (same_choice N u t)
  unfolding present_as_choice
  as-choice u k i t l = rw (offered t, leader-is u k, leader-is t l, choice_test N few t u k i, flip)
    where
      flip : same_choice N t u ≡ same_choice N u t
      flip = iff→eq (same_choice N t u) (same_choice N u t) ((choice-equivalence N).symmetric t u) ((choice-equivalence N).symmetric u t)

  abbrev c : ℕ
  c = get_or leaders (first_offered N A n) 0

  -- a removed first transition has no choice set
  one-is : first_offered N A n < N.transitions → (ltb c 32 && all (present_as_choice row leaders c) T) ≡ offers_one_choice_set N A n
  unfolding offers_one_choice_set offers_as_choice
  one-is l =
      let q = leader-is (first_offered N A n) l in
      by_test (N.kept (first_offered N A n))
      (λ k. rw (k, lt-ltb c 32 (omega (arith, q, kept-choice N (first_offered N A n) k)), all_of)
      (all-ext (present_as_choice row leaders c) (offers_as_choice N A n) N.transitions (as-choice (first_offered N A n) l k)))
      (λ k. rw (k, le-ltb c 32 (omega (arith, q, removed-choice N (first_offered N A n) k))))

  first-kept : offers_one_choice_set N A n ≡ true → N.kept (first_offered N A n) ≡ true
  unfolding offers_one_choice_set
  first-kept h = and_left (N.kept (first_offered N A n)) _ h

  pub offer-tells : Tells N A n (offer_of row leaders T)
  unfolding offer_of offer_from offer_fault or_else when
  offer-tells =
      rw first-is (by_test (ltb (first_offered N A n) T)
      (λ e.
      let l : first_offered N A n < N.transitions = let z = ltb-true (first_offered N A n) T e in omega (arith, all_of) in
      rw (e, one-is l) (by_test (offers_one_choice_set N A n)
      (λ h. rw (h, some-offer N A n l, h) (refl, one-awaits N A n l h ∙ rw (leader-is (first_offered N A n) l) (sym (source-test N (first_offered N A n) l (first-kept h)))))
      (λ h. rw (h, some-offer N A n l, h))))
      (λ e. rw (e, no-offer N A n (let z = ltb-false (first_offered N A n) T e in omega (arith, all_of)))))
