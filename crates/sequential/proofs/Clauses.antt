-- The tests of the net and of the nodes, and the clauses that they decide.
use Rattle.scan.proofs.Basics.{ℕ, ◌<◌, arith, ◌≡◌, ◌↔◌, true, List}
use mathlib.Core.Logic.Iff
use Rattle.scan.proofs.Tests.{eqb-false, ne_eqb}
use Rattle.scan.specs.Scan.{found}
use Rattle.scan.proofs.First.{found_some}
use Rattle.scan.proofs.Every.{any-in, any_out}
use Rattle.scan.proofs.Least.{least-hit, least-of}
use Rattle.automaton.specs.Automaton.{Automaton}
use Rattle.net.proofs.Checks.{within↔}
use Rattle.scan.proofs.Decide.{leb↔, all↔, and↔, unless↔, agree↔}
use Rattle.sequential.specs.Petri.{PetriNet, HoldsTaken, HasRoom, Enabled, SameChoice}
use Rattle.sequential.specs.Tests.{holds_enough, holds_taken, room_at, has_room, enabled, offers, offers_as_source, is_await, offers_some, first_offered, offers_as_choice, offers_one_choice_set}
use Rattle.sequential.specs.Schedule.{Offers, Await, OneChoiceSet}
use Rattle.sequential.proofs.Choices.{source↔, choice↔, choice-refl, choice-sym, choice-trans, choice-kept}

-- ---- the net

module _ (N : PetriNet) where
  pub holds↔ : (m : List ℕ) (t : ℕ) → (holds_taken N m t ≡ true) ↔ HoldsTaken N m t
  unfolding holds_taken holds_enough
  holds↔ m t = all↔ (holds_enough N m t) N.places (λ p l. leb↔ _ _)

  pub room↔ : (m : List ℕ) (t : ℕ) → (has_room N m t ≡ true) ↔ HasRoom N m t
  unfolding has_room room_at
  room↔ m t =
      all↔ (room_at N m t) N.places
      (λ p l. unless↔ _ _ (λ e. omega (arith, eqb-false (N.put t p) 0 e), λ h. ne_eqb (N.put t p) 0 (λ e. omega arith)) (within↔ _ _))

  pub enabled↔ : (m : List ℕ) (t : ℕ) → (enabled N m t ≡ true) ↔ Enabled N m t
  unfolding enabled
  enabled↔ m t =
      let (f, g) = and↔ _ _ (holds↔ m t) (room↔ m t) in
      (λ e. let (a, b) = f e in record { holds = a; room = b }, λ h. g (h.holds, h.room))

-- ---- the nodes

module _ (N : PetriNet) (A : Automaton) where
  pub offers↔ : (n t : ℕ) → (offers N A n t ≡ true) ↔ Offers N A n t
  unfolding offers found
  offers↔ n t = (λ e. found_some (A.arc n t) e, λ (m, e). rw e)

  pub await↔ : (n : ℕ) → (is_await N A n ≡ true) ↔ Await N A n
  unfolding is_await offers_as_source
  await↔ n = all↔ (offers_as_source N A n) N.transitions (λ t l. agree↔ _ _ (offers↔ n t) (source↔ N t))

  pub some_out : (n : ℕ) → offers_some N A n ≡ true → (t : ℕ) × (t < N.transitions) × Offers N A n t
  unfolding offers_some
  some_out n e = let (t, l, q) = any_out (offers N A n) N.transitions e in (t, l, (offers↔ n t).0 q)

  pub some_in : (n t : ℕ) → t < N.transitions → Offers N A n t → offers_some N A n ≡ true
  unfolding offers_some
  some_in n t l h = any-in (offers N A n) N.transitions t l ((offers↔ n t).1 h)

  -- the first transition offered, where there is one
  first-offered : (n t : ℕ) → t < N.transitions → Offers N A n t → (first_offered N A n < N.transitions) × Offers N A n (first_offered N A n)
  unfolding first_offered
  first-offered n t l h =
      let k = least-of (offers N A n) N.transitions t ((offers↔ n t).1 h) in
      let q : first_offered N A n < N.transitions = omega arith in
      (q, (offers↔ n (first_offered N A n)).0 (least-hit (offers N A n) N.transitions q))

  -- what the test asks of the first transition offered
  chosen↔ : (n : ℕ) → (offers_one_choice_set N A n ≡ true)
      ↔ ((N.kept (first_offered N A n) ≡ true) × ((u : ℕ) → u < N.transitions → Offers N A n u ↔ SameChoice N (first_offered N A n) u))
  unfolding offers_one_choice_set offers_as_choice
  chosen↔ n =
      and↔ (N.kept (first_offered N A n)) _ Iff.rfl
      (all↔ (offers_as_choice N A n) N.transitions (λ u l. agree↔ _ _ (offers↔ n u) (choice↔ N (first_offered N A n) u)))

  -- a node that offers some transition
  pub one_out : (n : ℕ) → offers_some N A n ≡ true → offers_one_choice_set N A n ≡ true → OneChoiceSet N A n
  one_out n s e = let (t, l, h) = some_out n s in let (k, c) = (chosen↔ n).0 e in (first_offered N A n, ((first-offered n t l h).0, k), c)

  pub one-some : (n : ℕ) → OneChoiceSet N A n → offers_some N A n ≡ true
  one-some n (t, (l, k), h) = some_in n t l ((h t l).1 (choice-refl N t))

  pub one_in : (n : ℕ) → OneChoiceSet N A n → offers_one_choice_set N A n ≡ true
  one_in n (t, (l, i), h) =
      let (k, o) = first-offered n t l ((h t l).1 (choice-refl N t)) in
      let c : SameChoice N t (first_offered N A n) = (h (first_offered N A n) k).0 o in
      (chosen↔ n).1 (choice-kept N t _ i c, λ u m. (λ x. choice-trans N _ t u (choice-sym N t _ c) ((h u m).0 x), λ y. (h u m).1 (choice-trans N t _ u c y)))
