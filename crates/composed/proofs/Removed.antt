-- The net with the other sources removed: a node that offers the source offers nothing else, and any other node offers one choice set of the whole net.
use Rattle.scan.proofs.Basics.{ℕ, ◌<◌, ◌≡◌, refl, sym, ◌∙◌, ◌↔◌, true, false}
use Rattle.scan.proofs.Tests.{lt-ltb, eqb-true, eq-eqb, not-true→false, and_both}
use Rattle.automaton.specs.Automaton.{Automaton}
use Rattle.sequential.specs.Petri.{PetriNet, Source, SameChoice}
use Rattle.sequential.specs.Schedule.{Offers, Await, OneChoiceSet}
use Rattle.sequential.specs.Tests.{is_source}
use Rattle.sequential.specs.Only.{is_source_of, only}
use Rattle.sequential.proofs.Choices.{source↔, choice-refl, choice-sym, choice-trans, choice-source}
use Rattle.sequential.proofs.Only.{source-only, kept_whole, other-choice}

module _ (N : PetriNet) (a : ℕ) (below : a < N.transitions) (source : Source N a) where
  one : is_source_of N a ≡ true
  unfolding is_source_of
  one = and_both _ _ (lt-ltb a N.transitions below) ((source↔ N a).1 source)

  -- the only source that is left
  pub left-source : (t : ℕ) → Source (only N a) t ↔ (t ≡ a)
  left-source t = (
    λ h. eqb-true t a (sym (source-only N a one t) ∙ (source↔ (only N a) t).1 h),
    λ e. (source↔ (only N a) t).0 (source-only N a one t ∙ eq-eqb t a e),
  )

  module _ (A : Automaton) where
    pub await-alone : (n t : ℕ) → t < N.transitions → OneChoiceSet (only N a) A n → Offers N A n a → Offers N A n t → t ≡ a
    await-alone n t lt (v, kv, h) oa ot =
        let c : SameChoice (only N a) a t = choice-trans (only N a) a v t (choice-sym (only N a) v a ((h a below).0 oa)) ((h t lt).0 ot) in
        (left-source t).0 ((choice-source (only N a) a t ((left-source a).1 refl)).0 c)

    pub busy-choice : (n : ℕ) → OneChoiceSet (only N a) A n → (Offers N A n a → ⊥) → OneChoiceSet N A n
    busy-choice n (v, (lv, kv), h) none =
        let (f, g) = other-choice N a v busy in
        (v, (lv, kept_whole N a v kv), λ u lu. (λ o. f u ((h u lu).0 o), λ c. (h u lu).1 (g u c)))
      where
        busy : is_source N v ≡ false
        busy = not-true→false (is_source N v) (λ e.
            let z : v ≡ a = (left-source v).0 (kv, ((source↔ N v).0 e).1) in
            none (rw z at ((h v lv).1 (choice-refl (only N a) v))))

    pub await-offers : (n : ℕ) → Await (only N a) A n → Offers N A n a
    await-offers n h = (h a below).1 ((left-source a).1 refl)
