-- What lies between two await nodes (§10.46, §10.47): runs that fire only from busy nodes, loops of such runs, and reactions.
-- A test says which nodes are await nodes; the others are busy. Nothing here depends on which test it is.
use Rattle.std.specs.Prelude.{ℕ, ◌≡◌, Bool, true, false, cond, List, ◌∷◌, ◌++◌}
use Rattle.std.proofs.Math.Option.{none, some}
use Rattle.automaton.specs.Automaton.{Automaton, follow}

module _ (A : Automaton) (await : ℕ → Bool) where
  -- σ leads from n to m, and each of its firings is from a busy node. Of m itself nothing is said.
  pub record BusyRun (n : ℕ) (σ : List ℕ) (m : ℕ) : Type 0 where
    pub leads : follow A n σ ≡ some m
    pub busy : (τ : List ℕ) (t : ℕ) (ρ : List ℕ) (p : ℕ) → σ ≡ τ ++ (t ∷ ρ) → follow A n τ ≡ some p → await p ≡ false

  -- §7.33, node n is on a loop that meets no await node: one or more firings, all from busy nodes, lead from n back to n
  abbrev pub BusyLoop : ℕ → Type 0
  BusyLoop n = (t : ℕ) × (σ : List ℕ) × BusyRun n (t ∷ σ) n

  -- §10.46, a reaction: await node a fires t, and σ leads on, through busy nodes only, to the next await node.
  pub record Reaction (a t : ℕ) (σ : List ℕ) (next : ℕ) : Type 0 where
    pub awaits : await a ≡ true
    pub reached : ℕ
    pub arc : A.arc a t ≡ some reached
    pub run : BusyRun reached σ next
    pub ends : await next ≡ true

  -- ---- the same, computed

  -- the graph with the arcs of the busy nodes only: a list that can be followed here is a busy run
  unfoldable pub busy_part : Automaton
  busy_part = record {
    nodes = A.nodes;
    transitions = A.transitions;
    arc = λ n t. cond (await n) none (A.arc n t);
    label = A.label;
  }
