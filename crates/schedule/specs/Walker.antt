-- Walkers: where a walker stands, and the checks before it fires, each with its clause and its number.
use Rattle.refusal.specs.declared.Reason.TheVariants.{NoSuchNode, NotOffered, WrongCounts}
use Rattle.std.specs.Prelude.{ℕ, suc, ◌≤◌, ◌<◌, ◌≡◌, List, [], ◌∷◌, ◌++◌, true, length, get_or, take}
use Rattle.automaton.specs.Automaton.{allows}
use Rattle.refusal.specs.Limits.{most_places}
use Rattle.refusal.specs.Checks.{◌else◌, Check, once, each}
use Rattle.refusal.specs.declared.Position.TheVariants.{Place, Record}
use Rattle.sequential.specs.Petri.{PetriNet}
use Rattle.sequential.specs.Words.{node_count, count_at, graph}
use Rattle.sequential.specs.Schedule.{Offers}
use Rattle.schedule.specs.declared.Walker.{Walker}

abbrev pub walker : ℕ → List ℕ → Walker
walker n counts = record { node = n; counts = counts }

-- a walker stands at node n, with 32 counts, which are `held` and 0 from P on: §10.5
pub record Stands (N : PetriNet) (w : Walker) (n : ℕ) (held : ℕ → ℕ) : Type 0 where
  pub node : w.node ≡ n
  pub counts : length w.counts ≡ most_places
  pub holds : (p : ℕ) → p < N.places → get_or w.counts p 0 ≡ held p
  pub zeros : (p : ℕ) → N.places ≤ p → p < most_places → get_or w.counts p 0 ≡ 0

-- §7.18, §7.19; what a node holds is 0 at places from P on
abbrev pub stand_checks : PetriNet → List ℕ → Walker → List Check
stand_checks N sheet w =
    once (w.node < node_count sheet) NoSuchNode
    ∷ each most_places Place ((λ p. get_or w.counts p 0 ≡ count_at N sheet w.node p) else WrongCounts ∷ [])
    ∷ []

-- §7.18 to §7.20, in the order of §7.58; 20 has no position here (§7.53)
abbrev pub walker_checks : PetriNet → List ℕ → Walker → ℕ → List Check
walker_checks N sheet w t = stand_checks N sheet w ++ (once (Offers N (graph N sheet) w.node t) NotOffered ∷ [])

-- §7.20 at each firing of a record, after those before it (§7.58)
abbrev pub run_checks : PetriNet → List ℕ → List ℕ → List Check
run_checks N sheet firings = each (length firings) Record ((λ i. allows (graph N sheet) 0 (take (suc i) firings) ≡ true) else NotOffered ∷ []) ∷ []
