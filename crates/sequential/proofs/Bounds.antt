-- The bound of a place: the greatest count over all nodes is the least number that no allowed list exceeds.
use Rattle.scan.proofs.Basics.{ℕ, ◌≤◌, ◌<◌, ◌≡◌, refl, ap, ◌∙◌, true, some, List, length, get_or}
use Rattle.scan.proofs.Greatest.{greatest-bounds, greatest-attained}
use Rattle.scan.proofs.Tabulate.{tabulate-at, tabulate-length}
use Rattle.automaton.specs.Automaton.{follow, allows}
use Rattle.automaton.specs.Reach.{Reachable}
use Rattle.automaton.proofs.Automaton.{follow-lands, allows-follow, follow-allows}
use Rattle.sequential.specs.Petri.{PetriNet, fire_all, initial}
use Rattle.sequential.specs.Words.{node_count, count_at, graph}
use Rattle.sequential.specs.Schedule.{IsSchedule}
use Rattle.sequential.specs.Bounds.{held_at, bound, bounds}
use Rattle.sequential.specs.Known.{ArcsHold}
use Rattle.sequential.specs.Runs.{LeastBound}
use Rattle.sequential.proofs.Entries.{graph-closed, marking-at}
use Rattle.sequential.proofs.Runs.{from-root}

module _ (N : PetriNet) (sheet : List ℕ) where
  pub bounds-length : length (bounds N sheet) ≡ N.places
  unfolding bounds
  bounds-length = tabulate-length (bound N sheet) N.places

  pub bounds-at : (p : ℕ) → p < N.places → get_or (bounds N sheet) p 0 ≡ bound N sheet p
  unfolding bounds
  bounds-at p l = tabulate-at (bound N sheet) 0 N.places p l

  module _ (T : 0 < N.transitions) (w : ArcsHold N sheet) (s : IsSchedule N (graph N sheet)) (p : ℕ) (l : p < N.places) where
    -- after an allowed list the place holds what it holds at the node where the list ends
    held : (σ : List ℕ) (n : ℕ) → follow (graph N sheet) 0 σ ≡ some n → (n < node_count sheet) × (get_or (fire_all N (initial N) σ) p 0 ≡ count_at N sheet n p)
    held σ n e =
        let c = graph-closed N sheet T w in
        let k = follow-lands (graph N sheet) c σ 0 n c.root e in
        (k, ap (λ (x : List ℕ). get_or x p 0) (from-root N (graph N sheet) c refl s σ n e).1 ∙ marking-at N sheet n p k l)

    no_more : (σ : List ℕ) → allows (graph N sheet) 0 σ ≡ true → get_or (fire_all N (initial N) σ) p 0 ≤ bound N sheet p
    unfolding bound held_at
    no_more σ a =
        let (n, e) = allows-follow (graph N sheet) 0 σ a in
        let (k, q) = held σ n e in
        rw q (greatest-bounds (held_at N sheet p) (node_count sheet) n k)

    as-much : (σ : List ℕ) × (allows (graph N sheet) 0 σ ≡ true) × (get_or (fire_all N (initial N) σ) p 0 ≡ bound N sheet p)
    unfolding bound held_at Reachable
    as-much =
        let (n, k, q) = greatest-attained (held_at N sheet p) (node_count sheet) w.shape.some_node in
        let (σ, e) = s.reached n k in
        (σ, follow-allows (graph N sheet) 0 n σ e, (held σ n e).1 ∙ q)

    pub least-bound : LeastBound N (graph N sheet) p (bound N sheet p)
    least-bound = record { kept = no_more; attained = as-much }
