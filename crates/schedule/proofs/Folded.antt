-- Single firings one after the other, each with the walker that the one before handed back, follow the arcs of the graph.
use Rattle.std.specs.Prelude.{Ok}
use Rattle.scan.proofs.Basics.{ℕ, ◌≡◌, refl, sym, ap, ◌∙◌, none, some, List, [], ◌∷◌, length}
use Rattle.scan.specs.Scan.{found_or}
use Rattle.automaton.specs.Automaton.{follow}
use Rattle.automaton.proofs.Automaton.{follow-first}
use Rattle.sequential.specs.Petri.{petri_net}
use Rattle.sequential.specs.Words.{arc, graph}
use Rattle.sequential.specs.Check.{schedule_reply}
use Rattle.schedule.specs.Firing.{walker_fault, follows}
use Rattle.schedule.specs.Walks.{Chain, stays, goes}
use Rattle.schedule.specs.declared.Walker.{Walker}
use Rattle.schedule.proofs.Walkers.{walker-out, step-tells, step-passes, handed-back}

module _ (net sheet : List ℕ) (accepted : schedule_reply net sheet ≡ Ok tt) where
  -- what stays true of the walker
  pub record Kept (w : Walker) (n : ℕ) : Type 0 where
    pub passes : walker_fault (petri_net net) sheet w ≡ none
    pub node : w.node ≡ n
    pub counts : length w.counts ≡ 32

  kept_next : (w : Walker) (n t m : ℕ) → Kept w n → arc (petri_net net) sheet n t ≡ some m → Kept (follows (petri_net net) sheet w t) m
  kept_next w n t m k e =
      let q = ap (λ (x : ℕ). arc (petri_net net) sheet x t) k.node ∙ e in
      let h = handed-back net sheet accepted w t m (walker-out (petri_net net) sheet w k.passes) q in
      record { passes = h.passes; node = cc h.target; counts = h.stands.counts }

  -- along the arcs
  pub chain-along : (σ : List ℕ) (w : Walker) (n m : ℕ) → Kept w n → follow (graph (petri_net net) sheet) n σ ≡ some m
      → (y : Walker) × Chain (petri_net net) sheet w σ y × Kept y m
  chain-along [] w n m k e = let q : n ≡ m = unfold follow in (cc) in (w, stays w, rw q at k)
  chain-along (t ∷ σ) w n m k e =
      let (x, a, f) = follow-first (graph (petri_net net) sheet) n t m σ e in
      let (y, c, j) = chain-along σ (follows (petri_net net) sheet w t) x m (kept_next w n t x k a) f in
      let p = walker-out (petri_net net) sheet w k.passes in
      let o = ap (λ (z : ℕ). arc (petri_net net) sheet z t) k.node ∙ a in
      (y, goes w y t σ (step-passes (petri_net net) sheet w t p (x, o)) c, j)

  -- and only along them
  pub along-chain : (σ : List ℕ) (w y : Walker) (n : ℕ) → Kept w n → Chain (petri_net net) sheet w σ y
      → (m : ℕ) × (follow (graph (petri_net net) sheet) n σ ≡ some m) × Kept y m
  unfolding follow
  along-chain [] w y n k (stays x) = (n, refl, k)
  along-chain (t ∷ σ) w y n k (goes x z u τ s c) =
      let (a, (b, ((m, o), v))) = (step-tells (petri_net net) sheet w t).passes.0 s in
      let q = ap (λ (d : ℕ). arc (petri_net net) sheet d t) (sym k.node) ∙ o in
      let (e, f, j) = along-chain σ (follows (petri_net net) sheet w t) y m (kept_next w n t m k q) c in
      (e, ap (found_or none (λ (x : ℕ). follow (graph (petri_net net) sheet) x σ)) q ∙ f, j)
