-- Capacities: firing enabled transitions keeps every place within its capacity; and when a transition is enabled if there are no capacities.
use Rattle.std.specs.Prelude.{Ok}
use Rattle.scan.proofs.Basics.{ℕ, ◌<◌, arith, ◌≡◌, none, List, [], ◌∷◌, get_or}
use Rattle.scan.proofs.Tests.{by_less}
use Rattle.scan.proofs.First.{none-some}
use Rattle.scan.proofs.Tabulate.{tabulate-at}
use Rattle.automaton.specs.Automaton.{Automaton, Closed}
use Rattle.automaton.specs.Reach.{Reachable}
use Rattle.net.specs.Check.{net_reply}
use Rattle.net.proofs.Laws.{start-within}
use Rattle.sequential.specs.Petri.{PetriNet, petri_net, initial, HoldsTaken, Enabled, fire, fired_count, fire_all, FiresEnabled, fires_first, Source}
use Rattle.sequential.specs.Schedule.{Await, IsSchedule}
use Rattle.sequential.specs.Runs.{WithinCapacities, StaysWithin}
use Rattle.sequential.proofs.Runs.{from-root}

module _ (N : PetriNet) where
  fired-at : (m : List ℕ) (t p : ℕ) → p < N.places → get_or (fire N m t) p 0 ≡ fired_count N m t p
  unfolding fire
  fired-at m t p l = tabulate-at (fired_count N m t) 0 N.places p l

  -- ---- firing

  pub fire-within : (m : List ℕ) (t : ℕ) → WithinCapacities N m → Enabled N m t → WithinCapacities N (fire N m t)
  unfolding fired_count
  fire-within m t w e p l c h = rw (fired-at m t p l) (by_less 0 (N.put t p) (λ k. omega (arith, e.room p l k c h)) (λ k. omega (arith, w p l c h)))

  pub fires-within : (m σ : List ℕ) → WithinCapacities N m → FiresEnabled N m σ → StaysWithin N m σ
  unfolding StaysWithin
  fires-within m [] w f = w
  fires-within m (t ∷ σ) w (fires_first _ _ _ l e f) = (w, fires-within (fire N m t) σ (fire-within m t w e) f)

  pub stays-last : (m σ : List ℕ) → StaysWithin N m σ → WithinCapacities N (fire_all N m σ)
  unfolding StaysWithin fire_all
  stays-last m [] w = w
  stays-last m (t ∷ σ) (w, s) = stays-last (fire N m t) σ s

  -- ---- without capacities

  pub enabled-unlimited : (m : List ℕ) (t : ℕ) → ((p : ℕ) → p < N.places → 0 < N.put t p → N.capacity p ≡ none) → HoldsTaken N m t → Enabled N m t
  enabled-unlimited m t u h = record { holds = h; room = λ p l k c e. none-some (N.capacity p) c (u p l k) e }

-- ---- the initial marking

pub initial-within : (net : List ℕ) → net_reply net ≡ Ok tt → WithinCapacities (petri_net net) (initial (petri_net net))
unfolding initial
initial-within net a p l = rw (tabulate-at (petri_net net).start 0 (petri_net net).places p l) (start-within net a p)

-- ---- a schedule

module _ (N : PetriNet) (A : Automaton) (c : Closed A) (same : A.transitions ≡ N.transitions) (s : IsSchedule N A) where
  pub node-within : WithinCapacities N (initial N) → (n : ℕ) → n < A.nodes → WithinCapacities N (A.label n)
  unfolding Reachable
  node-within w n l =
      let (σ, e) = s.reached n l in
      let (f, h) = from-root N A c same s σ n e in
      rw h at (stays-last N (initial N) σ (fires-within N (initial N) σ w f))

  -- an await node offers every source, and what is offered is enabled
  pub source-enabled : (n t : ℕ) → n < A.nodes → Await N A n → t < N.transitions → Source N t → Enabled N (A.label n) t
  source-enabled n t l a k q = let (m, e) = (a t k).1 q in s.enables n t m l e
