-- The list of the sources: rising, and each source once.
use Rattle.scan.proofs.Basics.{ℕ, zero, suc, ◌<◌, arith, ◌≡◌, sym, ◌∙◌, ⊎_elim, Bool, true, false, List, [], ◌∷◌, ◌++◌, length, get_or}
use mathlib.Core.List.{append-nil}
use Rattle.scan.specs.Scan.{when, passing}
use Rattle.scan.proofs.Tests.{by_test, true-false, lt-suc-cases}
use Rattle.scan.proofs.First.{when-hit, when-miss}
use Rattle.automaton.proofs.Index.{snoc-length, snoc_old, snoc_new, snoc-all}
use Rattle.encoding.specs.Encoding.{list_of, gather}
use Rattle.sequential.specs.Petri.{PetriNet}
use Rattle.sequential.specs.Tests.{is_source}
use Rattle.sequential.specs.Petri.{Source}
use Rattle.sequential.proofs.Choices.{source↔}
use Rattle.composed.specs.Sheet.{sources}

-- the numbers below n that pass, in rising order
pub record Lists (f : ℕ → Bool) (n : ℕ) (xs : List ℕ) : Type 0 where
  pub below : (j : ℕ) → j < length xs → get_or xs j 0 < n
  pub passes : (j : ℕ) → j < length xs → f (get_or xs j 0) ≡ true
  pub rising : (i j : ℕ) → i < j → j < length xs → get_or xs i 0 < get_or xs j 0
  pub every : (t : ℕ) → t < n → f t ≡ true → (j : ℕ) × (j < length xs) × (get_or xs j 0 ≡ t)

module _ (f : ℕ → Bool) (n : ℕ) (xs : List ℕ) (L : Lists f n xs) where
  lists-miss : f n ≡ false → Lists f (suc n) xs
  lists-miss e = record {
    below = λ j l. omega (arith, L.below j l);
    passes = L.passes;
    rising = L.rising;
    every = λ t l p. ⊎_elim (λ (q : t ≡ n). true-false (f n) (rw q at p) e) (λ (m : t < n). L.every t m p) (lt-suc-cases l);
  }

  lists-hit : f n ≡ true → Lists f (suc n) (xs ++ (n ∷ []))
  lists-hit e = record {
    below = snoc-all xs n (λ j x. x < suc n) (λ j l. omega (arith, L.below j l)) (omega arith);
    passes = snoc-all xs n (λ j x. f x ≡ true) L.passes e;
    rising = λ i j l lj.
        snoc-all xs n (λ j x. (i : ℕ) → i < j → get_or (xs ++ (n ∷ [])) i 0 < x)
        (λ j lj i l. rw (snoc_old xs n i (omega arith)) (L.rising i j l lj)) (λ i l. rw (snoc_old xs n i l) (L.below i l)) j lj i l;
    every = λ t l p.
        ⊎_elim (λ (q : t ≡ n). (length xs, omega (arith, snoc-length xs n), snoc_new xs n ∙ sym q))
        (λ (m : t < n). let (j, lj, q) = L.every t m p in (j, omega (arith, snoc-length xs n), snoc_old xs n j lj ∙ q)) (lt-suc-cases l);
  }

gather-lists : (f : ℕ → Bool) (n : ℕ) → Lists f n (gather (passing f) n)
unfolding gather passing
gather-lists f zero = record {
  below = λ j l. absurd (omega arith);
  passes = λ j l. absurd (omega arith);
  rising = λ i j l lj. absurd (omega arith);
  every = λ t l p. absurd (omega arith);
}
gather-lists f (suc n) = step (gather (passing f) n) (gather-lists f n)
  where
    step : (xs : List ℕ) → Lists f n xs → Lists f (suc n) (xs ++ list_of (when (f n) n))
    step xs L =
        by_test (f n) (λ e. rw (when-hit (f n) n e) (lists-hit f n xs L e)) (λ e. rw (when-miss (f n) n e, append-nil xs) (lists-miss f n xs L e))

pub sources-list : (N : PetriNet) → Lists (is_source N) N.transitions (sources N)
unfolding sources
sources-list N = gather-lists (is_source N) N.transitions

-- a net with a source has one at 0
pub sources-some : (N : PetriNet) (t : ℕ) → t < N.transitions → Source N t → 0 < length (sources N)
sources-some N t l h = let (j, lj, q) = (sources-list N).every t l ((source↔ N t).1 h) in omega arith
