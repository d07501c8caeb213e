-- The rounds by tables of leaders: each round needs only the table before it, and a round that changes no leader is the last.
use Rattle.scan.proofs.Basics.{ℕ, zero, suc, ◌<◌, arith, ◌≡◌, refl, sym, ◌∙◌, ◌&&◌, get_or}
use mathlib.Core.Logic.Iff
use Rattle.scan.specs.Scan.{all}
use Rattle.scan.proofs.Every.{all-ext}
use Rattle.scan.proofs.Tabulate.{tabulate-at}
use Rattle.automaton.specs.Automaton.{Automaton, Closed}
use Rattle.automaton.specs.Equivalence.{agree, same_in, same, leader_by, leader, same_class, refined, classes}
use Rattle.scan.proofs.Decide.{and↔, equal↔}
use Rattle.automaton.proofs.Targets.{equal_arcs-ext}
use Rattle.automaton.proofs.Leader.{leader-ext, leader-test}
use Rattle.automaton.proofs.Refinement.{leaders→stable, stable-is-last}
use Rattle.automaton.proofs.Same.{same_in-label, same_in-suc↔, arcs↔, same_in-down, same_in-equivalence}
use Rattle.automaton.proofs.Equivalence.{same_in-falling}

module _ (A : Automaton) where
  pub same-leader : (k n m : ℕ) → same_class (leader A k) n m ≡ same_in A k n m
  unfolding leader same_class
  same-leader k n m = leader-test (same_in A k) (same_in-equivalence A k) n m

  -- a round is: not told apart before, and neither are the targets
  pub same_in-round : (k n m : ℕ) → same_in A (suc k) n m ≡ (same_in A k n m && all (agree A (same_in A k) n m) A.transitions)
  same_in-round k n m =
      equal↔ _ _ (same_in-suc↔ A k n m) (and↔ _ _ Iff.rfl (arcs↔ A (same_in A k) n m))
      (λ (e, a). (same_in-down A k n m ((same_in-suc↔ A k n m).1 (e, a)), a), λ (e, a). (same_in-label A k n m e, a))

  module _ (c : Closed A) where
    -- ---- a table that holds the leaders of round k

    module _ (k : ℕ) (class : ℕ → ℕ) (is : (n : ℕ) → n < A.nodes → class n ≡ leader A k n) where
      pub class_same : (n m : ℕ) → n < A.nodes → m < A.nodes → same_class class n m ≡ same_in A k n m
      class_same n m ln lm = unfold same_class in (rw (is n ln, is m lm)) ∙ same-leader k n m

      pub refined-same : (n m : ℕ) → n < A.nodes → m < A.nodes → refined A class n m ≡ same_in A (suc k) n m
      unfolding refined agree
      refined-same n m ln lm =
          rw (class_same n m ln lm, all-ext (agree A (same_class class) n m) (agree A (same_in A k) n m) A.transitions arcs) (sym (same_in-round k n m))
        where
          arcs : (t : ℕ) → t < A.transitions → agree A (same_class class) n m t ≡ agree A (same_in A k) n m t
          arcs t l = equal_arcs-ext (same_class class) (same_in A k) (A.arc n t) (A.arc m t) (λ a b p q. class_same a b (c.lands n t a ln p) (c.lands m t b lm q))

      -- the table after it
      pub refined-leader : (n : ℕ) → n < A.nodes → leader_by (refined A class) n ≡ leader A (suc k) n
      unfolding leader
      refined-leader n l = leader-ext (refined A class) (same_in A (suc k)) n (λ m h. refined-same m n (omega arith) l)

    -- ---- the last round

    -- a round that changes no leader
    pub leaders-last : (k : ℕ) → ((n : ℕ) → n < A.nodes → leader A (suc k) n ≡ leader A k n)
        → (n m : ℕ) → n < A.nodes → m < A.nodes → same A n m ≡ same_class (leader A k) n m
    unfolding same leader
    leaders-last k h n m ln lm =
        stable-is-last (same_in A) A.nodes (same_in-falling A c) k (leaders→stable (same_in A) A.nodes (same_in-falling A c) k h) n m ln lm ∙
        sym (same-leader k n m)

    -- ---- the tables, each from the one before it

    pub classes-at : (k n : ℕ) → n < A.nodes → get_or (classes A k) n 0 ≡ leader A k n
    unfolding classes
    classes-at zero n l = tabulate-at (leader_by (same_in A 0)) 0 A.nodes n l ∙ unfold leader in refl
    classes-at (suc k) n l =
        tabulate-at (leader_by (refined A (λ i. get_or (classes A k) i 0))) 0 A.nodes n l ∙ refined-leader k (λ i. get_or (classes A k) i 0) (classes-at k) n l
