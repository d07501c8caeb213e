-- Equivalence and its computation agree: nodes that no round tells apart have equal labels and allow the same lists, and as many rounds as nodes decide it.
use Rattle.scan.proofs.Basics.{ℕ, zero, suc, ◌<◌, ◌≡◌, refl, sym, ap, ◌∙◌, ◌↔◌, true, List, [], ◌∷◌, length}
use Rattle.scan.proofs.Tests.{by_less}
use Rattle.scan.specs.Scan.{found}
use Rattle.automaton.specs.Automaton.{Automaton, Closed, allows, SameLists, follow}
use Rattle.automaton.specs.Equivalence.{Equivalent, Fires, same_in, same}
use Rattle.automaton.proofs.Automaton.{allows-arc, allows-no-arc, follow_one}
use Rattle.automaton.proofs.Targets.{Targets, Holds, targets-none, targets-some, targets-cases, targets-found}
use Rattle.automaton.proofs.Leader.{IsEquivalence}
use Rattle.automaton.proofs.Refinement.{Stable, Falling, stable-last, stable-every}
use Rattle.automaton.proofs.Same.{same_in-label, same_in-zero, same_in-suc↔, same_in-equivalence, same_in-down}

-- ---- an equivalence, within one automaton and across several

pub equivalent-sym : (A B : Automaton) (n m : ℕ) → Equivalent A B n m → Equivalent B A m n
unfolding SameLists
equivalent-sym A B n m e = record { labels = sym e.labels; lists = λ σ. sym (e.lists σ) }

pub equivalent-trans : (A B C : Automaton) (n m p : ℕ) → Equivalent A B n m → Equivalent B C m p → Equivalent A C n p
unfolding SameLists
equivalent-trans A B C n m p e f = record { labels = e.labels ∙ f.labels; lists = λ σ. e.lists σ ∙ f.lists σ }

-- ---- equivalent nodes have equivalent targets

module _ (fire : List ℕ → ℕ → List ℕ) (A B : Automaton) (fA : Fires fire A) (fB : Fires fire B) where
  pub equivalent-targets : (n m : ℕ) → n < A.nodes → m < B.nodes → Equivalent A B n m → (t : ℕ) → Targets (Equivalent A B) (A.arc n t) (B.arc m t)
  unfolding SameLists allows
  equivalent-targets n m ln lm e t =
      targets-found (Equivalent A B) (A.arc n t) (B.arc m t) (rw (follow_one A n t, follow_one B m t) at (e.lists (t ∷ [])))
      (λ a b p q. record {
        labels = fA.fires n t a ln p ∙ ap (λ (l : List ℕ). fire l t) e.labels ∙ sym (fB.fires m t b lm q);
        lists = λ σ. sym (allows-arc A n t a σ p) ∙ e.lists (t ∷ σ) ∙ allows-arc B m t b σ q;
      })

module _ (A : Automaton) (c : Closed A) where
  -- ---- from the rounds to the lists

  pub same_in-targets : (k n m : ℕ) → same_in A (suc k) n m ≡ true → (t : ℕ) → Targets (Holds (same_in A k)) (A.arc n t) (A.arc m t)
  same_in-targets k n m e t =
      by_less t A.transitions (((same_in-suc↔ A k n m).0 e).1 t) (λ l. targets-none (Holds (same_in A k)) (A.arc n t) (A.arc m t) (c.bounded n t l) (c.bounded m t l))

  -- as many rounds as a list is long do not tell nodes apart: both allow it, or neither
  pub same_in-allows : (σ : List ℕ) (n m : ℕ) → same_in A (length σ) n m ≡ true → allows A n σ ≡ allows A m σ
  same_in-allows [] n m e = unfold allows follow found in refl
  same_in-allows (t ∷ σ) n m e =
      targets-cases (Holds (same_in A (length σ))) (A.arc n t) (A.arc m t) (same_in-targets (length σ) n m e t)
      (λ p q. allows-no-arc A n t σ p ∙ sym (allows-no-arc A m t σ q))
      (λ a b p q r. allows-arc A n t a σ p ∙ same_in-allows σ a b r ∙ sym (allows-arc A m t b σ q))

  -- ---- as many rounds as nodes

  -- where targets of nodes are nodes, a round that splits nothing is the last to split anything
  same-stays : (k : ℕ) → Stable (same_in A) A.nodes k → Stable (same_in A) A.nodes (suc k)
  same-stays k s n m ln lm e =
      let (h, a) = (same_in-suc↔ A k n m).0 e in
      (same_in-suc↔ A (suc k) n m).1 (
        h,
        λ t l. targets-cases (Holds (same_in A k)) (A.arc n t) (A.arc m t) (a t l)
            (targets-none (Holds (same_in A (suc k))) (A.arc n t) (A.arc m t))
            (λ a b p q r. targets-some (Holds (same_in A (suc k))) (A.arc n t) (A.arc m t) a b p q (s a b (c.lands n t a ln p) (c.lands m t b lm q) r)),
      )

  pub same_in-falling : Falling (same_in A) A.nodes
  same_in-falling = record { equivalence = same_in-equivalence A; down = same_in-down A; stays = same-stays }

  same→equivalent : (n m : ℕ) → n < A.nodes → m < A.nodes → same A n m ≡ true → Equivalent A A n m
  unfolding same SameLists
  same→equivalent n m ln lm e = record {
    labels = same_in-label A A.nodes n m e;
    lists = λ σ. same_in-allows σ n m (stable-every (same_in A) A.nodes same_in-falling A.nodes (stable-last (same_in A) A.nodes same_in-falling) (length σ) n m ln lm e);
  }

  -- ---- from the lists to the rounds

  module _ (fire : List ℕ → ℕ → List ℕ) (f : Fires fire A) where
    equivalent→same_in : (k n m : ℕ) → n < A.nodes → m < A.nodes → Equivalent A A n m → same_in A k n m ≡ true
    equivalent→same_in zero n m ln lm e = same_in-zero A n m e.labels
    equivalent→same_in (suc k) n m ln lm e =
        (same_in-suc↔ A k n m).1 (
          e.labels,
          λ t l. targets-cases (Equivalent A A) (A.arc n t) (A.arc m t) (equivalent-targets fire A A f f n m ln lm e t)
              (targets-none (Holds (same_in A k)) (A.arc n t) (A.arc m t))
              (λ a b p q r. targets-some (Holds (same_in A k)) (A.arc n t) (A.arc m t) a b p q (equivalent→same_in k a b (c.lands n t a ln p) (c.lands m t b lm q) r)),
        )

    pub same↔equivalent : (n m : ℕ) → n < A.nodes → m < A.nodes → (same A n m ≡ true) ↔ Equivalent A A n m
    unfolding same
    same↔equivalent n m ln lm = (same→equivalent n m ln lm, equivalent→same_in A.nodes n m ln lm)

pub same-equivalence : (A : Automaton) → IsEquivalence (same A)
unfolding same
same-equivalence A = same_in-equivalence A A.nodes
