-- Moore's bound: take equivalences on N numbers, each round finer, such that a round that splits nothing is followed only by such rounds. After N rounds nothing is split.
use Rattle.scan.proofs.Basics.{ℕ, suc, ◌<◌, arith, ◌≡◌, sym, ◌∙◌, inr, Bool, true, eqb}
use Prim.Native.Nat.{zero-le}
use native.Mathlib.Decide.{le_ind}
use Rattle.scan.proofs.Tests.{eqb-true, eq-eqb, by_less, iff→eq}
use Rattle.scan.specs.Scan.{count}
use Rattle.scan.proofs.Count.{count-le, count-mono, count-eq}
use Rattle.automaton.specs.Equivalence.{leader_by}
use Rattle.automaton.proofs.Rounds.{stabilizes}
use Rattle.automaton.proofs.Leader.{IsEquivalence, leader-le, leader-least, leader-member, leader-of-equivalent, equivalent-by-leader}

-- round k + 1 splits no class
abbrev pub Stable : (ℕ → ℕ → ℕ → Bool) → ℕ → ℕ → Type 0
Stable E N k = (n m : ℕ) → n < N → m < N → E k n m ≡ true → E (suc k) n m ≡ true

pub record Falling (E : ℕ → ℕ → ℕ → Bool) (N : ℕ) : Type 0 where
  pub equivalence : (k : ℕ) → IsEquivalence (E k)
  pub down : (k n m : ℕ) → E (suc k) n m ≡ true → E k n m ≡ true
  pub stays : (k : ℕ) → Stable E N k → Stable E N (suc k)

-- n is the leader of its class
abbrev leads : (ℕ → ℕ → Bool) → ℕ → Bool
leads r n = eqb (leader_by r n) n

module _ (E : ℕ → ℕ → ℕ → Bool) (N : ℕ) (F : Falling E N) where
  -- a leader stays one
  leads-up : (k n : ℕ) → leads (E k) n ≡ true → leads (E (suc k)) n ≡ true
  leads-up k n e =
      eq-eqb (leader_by (E (suc k)) n) n (omega (
        arith,
        eqb-true (leader_by (E k) n) n e,
        leader-le (E (suc k)) n,
        leader-least (E k) n (leader_by (E (suc k)) n) (F.down k (leader_by (E (suc k)) n) n (leader-member (E (suc k)) (F.equivalence (suc k)) n)),
      ))

  -- leaders that are the same in both rounds: no class is split
  pub leaders→stable : (k : ℕ) → ((n : ℕ) → n < N → leader_by (E (suc k)) n ≡ leader_by (E k) n) → Stable E N k
  leaders→stable k h n m ln lm e =
      equivalent-by-leader (E (suc k)) (F.equivalence (suc k)) n m (h n ln ∙ leader-of-equivalent (E k) (F.equivalence k) n m e ∙ sym (h m lm))

  -- as many leaders: the same ones
  even→stable : (k : ℕ) → count (leads (E k)) N ≡ count (leads (E (suc k))) N → Stable E N k
  even→stable k q = leaders→stable k leaders
    where
      low : (c : ℕ) → c < N → leads (E (suc k)) c ≡ true → leads (E k) c ≡ true
      low = count-eq (leads (E k)) (leads (E (suc k))) N (λ i l. leads-up k i) q

      leaders : (n : ℕ) → n < N → leader_by (E (suc k)) n ≡ leader_by (E k) n
      leaders n l =
          let a : ℕ = leader_by (E (suc k)) n in
          let inside : E (suc k) a n ≡ true = leader-member (E (suc k)) (F.equivalence (suc k)) n in
          let own : leader_by (E (suc k)) a ≡ a = leader-of-equivalent (E (suc k)) (F.equivalence (suc k)) a n inside in
          let led : leads (E k) a ≡ true = low a (omega (arith, leader-le (E (suc k)) n)) (eq-eqb (leader_by (E (suc k)) a) a own) in
          sym (eqb-true (leader_by (E k) a) a led) ∙ leader-of-equivalent (E k) (F.equivalence k) a n (F.down k a n inside)

  pub stable-last : Stable E N N
  stable-last =
      stabilizes (Stable E N) (λ k. count (leads (E k)) N) N 0 N (inr zero-le) (λ k. count-le (leads (E k)) N)
      (λ k. count-mono (leads (E k)) (leads (E (suc k))) N (λ i l. leads-up k i)) even→stable F.stays (omega arith)

  -- what holds after a round that splits nothing holds in every round
  pub stable-every : (k : ℕ) → Stable E N k → (j n m : ℕ) → n < N → m < N → E k n m ≡ true → E j n m ≡ true
  stable-every k s j n m ln lm e =
      by_less k j (λ l. (le_ind (λ (i : ℕ). Stable E N i × (E i n m ≡ true)) (s, e) (λ i h (t, x). (F.stays i t, t n m ln lm x)) j (omega arith)).1)
      (λ l. le_ind (λ (i : ℕ). E i n m ≡ true → E j n m ≡ true) (λ x. x) (λ i h f x. f (F.down i n m x)) k l e)

  pub stable-is-last : (k : ℕ) → Stable E N k → (n m : ℕ) → n < N → m < N → E N n m ≡ E k n m
  stable-is-last k s n m ln lm = iff→eq (E N n m) (E k n m) (stable-every N stable-last k n m ln lm) (stable-every k s N n m ln lm)
