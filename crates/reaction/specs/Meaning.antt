-- What best and worst mean (§10.47): the equations, and the extreme of all runs to the next await node.
-- This is said once for both, over durations d and an order: ≤ for the best, ≥ for the worst.
use Rattle.std.specs.Prelude.{ℕ, ◌+◌, ◌≡◌, Bool, true, false, List, ◌∷◌}
use Rattle.std.proofs.Math.Option.{some}
use Rattle.automaton.specs.Automaton.{Automaton}
use Rattle.reaction.specs.Busy.{BusyRun, Reaction}
use Rattle.reaction.specs.Duration.{lasting}

module _ (A : Automaton) (await : ℕ → Bool) (d : ℕ → ℕ) (Before : ℕ → ℕ → Type 0) where
  -- The equations at node n: the value of an await node is 0; that of a busy node is the value of one of its arcs, and no arc has a better one.
  pub record Solves (value : ℕ → ℕ) (n : ℕ) : Type 0 where
    pub awaits : await n ≡ true → value n ≡ 0
    pub bounds : await n ≡ false → (t m : ℕ) → A.arc n t ≡ some m → Before (value n) (d t + value m)
    pub attained : await n ≡ false → (t : ℕ) × (m : ℕ) × (A.arc n t ≡ some m) × (value n ≡ d t + value m)

  -- x is the extreme over the runs from n to the first await node that they meet, and some run attains it
  pub record ExtremeOfRuns (n x : ℕ) : Type 0 where
    pub bounds : (σ : List ℕ) (next : ℕ) → BusyRun A await n σ next → await next ≡ true → Before x (lasting d σ)
    pub attained : (σ : List ℕ) × (next : ℕ) × BusyRun A await n σ next × (await next ≡ true) × (lasting d σ ≡ x)

  -- x is the extreme over the reactions of await node a to t, and some reaction attains it
  pub record ExtremeOfReactions (a t x : ℕ) : Type 0 where
    pub bounds : (σ : List ℕ) (next : ℕ) → Reaction A await a t σ next → Before x (lasting d (t ∷ σ))
    pub attained : (σ : List ℕ) × (next : ℕ) × Reaction A await a t σ next × (lasting d (t ∷ σ) ≡ x)
