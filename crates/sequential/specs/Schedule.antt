-- Await nodes, choices, and when a graph is a sequential schedule of its net.
use Rattle.std.specs.Prelude.{ℕ, ◌<◌, ◌≡◌, ◌↔◌, List}
use Rattle.std.proofs.Math.Option.{some}
use Rattle.automaton.specs.Automaton.{Automaton, follow}
use Rattle.automaton.specs.Reach.{Reachable}
use Rattle.sequential.specs.Petri.{PetriNet, initial, fire, Enabled, Transition, Source, SameChoice}

module _ (N : PetriNet) (A : Automaton) where
  -- §3.7
  abbrev pub Offers : ℕ → ℕ → Type 0
  Offers n t = (m : ℕ) × (A.arc n t ≡ some m)

  -- §5.4
  abbrev pub Await : ℕ → Type 0
  Await n = (t : ℕ) → t < N.transitions → Offers n t ↔ Source N t

  -- §5.3
  abbrev pub OneChoiceSet : ℕ → Type 0
  OneChoiceSet n = (t : ℕ) × Transition N t × ((u : ℕ) → u < N.transitions → Offers n u ↔ SameChoice N t u)

  -- some path of any length leads to an await node. Not every path need do so (§6.10), and no path back to the root is asked for (§6.11)
  abbrev pub ToAwait : ℕ → Type 0
  ToAwait n = (σ : List ℕ) × (m : ℕ) × (follow A n σ ≡ some m) × Await m

  -- §6.1; the fields are §6.2 to §6.8, in their order
  pub record IsSchedule : Type 0 where
    pub starts : A.label 0 ≡ initial N
    pub choices : (n : ℕ) → n < A.nodes → OneChoiceSet n
    pub root_awaits : Await 0
    pub enables : (n t m : ℕ) → n < A.nodes → A.arc n t ≡ some m → Enabled N (A.label n) t
    pub lands : (n t m : ℕ) → n < A.nodes → A.arc n t ≡ some m → A.label m ≡ fire N (A.label n) t
    pub reached : (n : ℕ) → n < A.nodes → Reachable A n
    pub returns : (n : ℕ) → n < A.nodes → ToAwait n
