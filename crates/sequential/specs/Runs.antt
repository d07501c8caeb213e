-- Runs of a schedule: lists of firings from the root, how they go on, and the least bound of a place.
use Rattle.std.specs.Prelude.{ℕ, ◌-◌, ◌≤◌, ◌<◌, ◌≡◌, ◌↔◌, List, [], ◌∷◌, ◌++◌, true, length, get_or}
use Rattle.std.proofs.Math.Option.{some}
use Rattle.automaton.specs.Automaton.{Automaton, follow, allows}
use Rattle.automaton.specs.Reach.{Reachable}
use Rattle.net.specs.Net.{Within}
use Rattle.sequential.specs.Petri.{PetriNet, initial, fire, fire_all, FiresEnabled, SameChoice}
use Rattle.sequential.specs.Schedule.{Offers, Await, ToAwait}

-- place p holds at most b after every allowed list, and exactly b after some allowed list, so that no lower bound holds: §13.3
pub record LeastBound (N : PetriNet) (A : Automaton) (p b : ℕ) : Type 0 where
  pub kept : (σ : List ℕ) → allows A 0 σ ≡ true → get_or (fire_all N (initial N) σ) p 0 ≤ b
  pub attained : (σ : List ℕ) × (allows A 0 σ ≡ true) × (get_or (fire_all N (initial N) σ) p 0 ≡ b)

-- a list from the root fires from the initial marking, and gives the counts of the node where it ends: §13.3
pub record Runs (N : PetriNet) (A : Automaton) (σ : List ℕ) : Type 0 where
  pub end : ℕ
  pub leads : follow A 0 σ ≡ some end
  pub enabled : FiresEnabled N (initial N) σ
  pub holds : fire_all N (initial N) σ ≡ A.label end

-- a list can be continued by each member of the choice set offered at its end, and by nothing else: §13.3
pub record GoesOn (N : PetriNet) (A : Automaton) (σ : List ℕ) : Type 0 where
  pub end : ℕ
  pub leads : follow A 0 σ ≡ some end
  pub member : ℕ
  pub offered : Offers N A end member
  pub extended : (t : ℕ) → (allows A 0 (σ ++ (t ∷ [])) ≡ true) ↔ ((t < N.transitions) × SameChoice N member t)
  pub goes : allows A 0 (σ ++ (member ∷ [])) ≡ true

-- if some list leads to node n, or from n to an await node, then one with fewer firings than there are nodes does: §6.9
pub record ShortWhereAny (N : PetriNet) (A : Automaton) (n : ℕ) : Type 0 where
  pub reached : Reachable A n → (σ : List ℕ) × (length σ ≤ A.nodes - 1) × (follow A 0 σ ≡ some n)
  pub returns : ToAwait N A n → (σ : List ℕ) × (m : ℕ) × (length σ ≤ A.nodes - 1) × (follow A n σ ≡ some m) × Await N A m

module _ (N : PetriNet) where
  -- no place holds more than its capacity: §13.13
  abbrev pub WithinCapacities : List ℕ → Type 0
  WithinCapacities marking = (p : ℕ) → p < N.places → Within (N.capacity p) (get_or marking p 0)

  -- the same at every marking that firing a list goes through, before its first firing and after each
  unfoldable pub StaysWithin : List ℕ → List ℕ → Type 0
  StaysWithin marking [] = WithinCapacities marking
  StaysWithin marking (t ∷ σ) = WithinCapacities marking × StaysWithin (fire N marking t) σ
