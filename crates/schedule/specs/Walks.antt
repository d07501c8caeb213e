-- What holds of walkers on an accepted schedule, for proofs: of the walker handed back, and of firings one after the other.
use Rattle.std.specs.Prelude.{ℕ, ◌+◌, ◌-◌, ◌≡◌, List, [], ◌∷◌, get_or}
use Rattle.std.proofs.Math.Option.{none, some}
use Rattle.sequential.specs.Petri.{PetriNet, Enabled}
use Rattle.sequential.specs.Words.{arc}
use Rattle.schedule.specs.Walker.{Stands}
use Rattle.schedule.specs.Firing.{walker_fault, step_fault, follows}
use Rattle.schedule.specs.declared.Walker.{Walker}

-- the walker handed back stands at the arc's target, with the counts that firing gives, and passes 18 and 19 again
pub record HandedBack (N : PetriNet) (sheet : List ℕ) (w : Walker) (t : ℕ) (next : Walker) : Type 0 where
  pub target : arc N sheet w.node t ≡ some next.node
  pub enabled : Enabled N w.counts t
  pub stands : Stands N next next.node (λ p. get_or w.counts p 0 - N.taken t p + N.put t p)
  pub passes : walker_fault N sheet next ≡ none

-- single firings one after the other, none of them refused, each with the walker that the one before handed back
pub data Chain (N : PetriNet) (sheet : List ℕ) : Walker → List ℕ → Walker → Type 0 where
  stays : (w : Walker) → Chain N sheet w [] w
  goes : (w y : Walker) (t : ℕ) (σ : List ℕ) → step_fault N sheet w t ≡ none → Chain N sheet (follows N sheet w t) σ y → Chain N sheet w (t ∷ σ) y
