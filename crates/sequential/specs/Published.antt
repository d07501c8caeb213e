-- The published definitions (source document 001): free-choice sets, Definition 3, and sequential schedules, Definition 5, property by property: §5.5, §6.12.
use Rattle.std.specs.Prelude.{ℕ, ◌<◌, ◌≡◌, ◌↔◌, List, Bool, true}
use Rattle.std.proofs.Math.Option.{some}
use Rattle.automaton.specs.Automaton.{Automaton, follow}
use Rattle.sequential.specs.Petri.{PetriNet, initial, fire, fire_all, Enabled, FiresEnabled, Transition, Source, TakesSame, SharesPlace, SameChoice}
use Rattle.sequential.specs.Schedule.{Offers}

-- ---- free-choice sets

-- A set of transitions is a test, and its members are the transitions that pass it. Pre[t] is what t takes from each place, •t the places that it
-- draws on, which are none exactly if t is a source (Definition 2), and (•t)• the transitions that draw on one of them.
module _ (N : PetriNet) where
  abbrev pub Member : (ℕ → Bool) → ℕ → Type 0
  Member C t = Transition N t × (C t ≡ true)

  abbrev pub Subset : (ℕ → Bool) → (ℕ → Bool) → Type 0
  Subset C D = (t : ℕ) → Member C t → Member D t

  -- C = (•t)•
  abbrev pub DrawsBeside : (ℕ → Bool) → ℕ → Type 0
  DrawsBeside C t = (u : ℕ) → Transition N u → (C u ≡ true) ↔ SharesPlace N t u

  -- of any two members that are not the same: Pre[t₁] = Pre[t₂], and C = (•t₁)• unless •t₁ is empty
  abbrev pub FreeWithin : (ℕ → Bool) → Type 0
  FreeWithin C = (t₁ t₂ : ℕ) → Member C t₁ → Member C t₂ → (t₁ ≡ t₂ → ⊥) → TakesSame N t₁ t₂ × ((Source N t₁ → ⊥) → DrawsBeside C t₁)

  -- Definition 3
  pub record FreeChoiceSet (C : ℕ → Bool) : Type 0 where
    pub free : FreeWithin C
    pub maximal : (D : ℕ → Bool) → FreeWithin D → Subset C D → Subset D C

  -- t₂ is in FCS(t₁): one free-choice set has both
  abbrev pub InFCS : ℕ → ℕ → Type 0
  InFCS t₁ t₂ = (C : ℕ → Bool) × FreeChoiceSet C × Member C t₁ × Member C t₂

  -- C is the choice set of t (§5.1)
  abbrev pub ChoiceSetOf : ℕ → (ℕ → Bool) → Type 0
  ChoiceSetOf t C = (u : ℕ) → Transition N u → (C u ≡ true) ↔ SameChoice N t u

-- ---- sequential schedules

-- A schedule (S, T, →, s₀) of N: S is the numbers below A's nodes, s₀ is 0, μ(s) is a node's counts, and t is fireable in s where s has an arc by t.
pub record SequentialSchedule (N : PetriNet) (A : Automaton) : Type 0 where
  -- 1: μ maps each state to a marking that firing enabled transitions reaches, s₀ to the initial one
  pub maps : (s : ℕ) → s < A.nodes → (σ : List ℕ) × FiresEnabled N (initial N) σ × (fire_all N (initial N) σ ≡ A.label s)
  pub maps_root : A.label 0 ≡ initial N
  -- 2: an arc is enabled in the net, and fires to the counts where it leads
  pub fires : (s t s' : ℕ) → s < A.nodes → A.arc s t ≡ some s' → Enabled N (A.label s) t × (A.label s' ≡ fire N (A.label s) t)
  -- 3: with one transition exactly those of its free-choice set are fireable
  pub chooses : (s t₁ t₂ : ℕ) → s < A.nodes → t₂ < N.transitions → Offers N A s t₁ → Offers N A s t₂ ↔ InFCS N t₁ t₂
  -- 4: in s₀ exactly the sources are fireable
  pub sources : (t : ℕ) → t < N.transitions → Offers N A 0 t ↔ Source N t
  -- 5: from each state and for each source, a path leads to a state in which the source is fireable
  pub serves : (s t : ℕ) → s < A.nodes → t < N.transitions → Source N t → (σ : List ℕ) × (s' : ℕ) × (follow A s σ ≡ some s') × Offers N A s' t
