-- The loop test of one node by marks that spread along the busy arcs: if each mark is right and they spread no further, they decide it.
use Prim.Native.Nat.{ℕ, ◌<◌}
use mathlib.Core.Path.{◌≡◌}
use mathlib.Core.Bool.{Bool, true, false}
use mathlib.Core.List.{List, [], ◌∷◌}
use mathlib.Core.Option.{some}
use Rattle.scan.proofs.Tests.{iff→eq}
use Rattle.automaton.specs.Automaton.{Automaton, Closed, follow}
use Rattle.automaton.proofs.Automaton.{follow-first, follow-nil}
use Rattle.reaction.specs.Busy.{BusyLoop, busy_part}
use Rattle.reaction.specs.Loop.{on_loop, Spread}
use Rattle.reaction.proofs.Busy.{arc-busy, run_out}
use Rattle.reaction.proofs.Loop.{loop↔}

module _ (A : Automaton) (await : ℕ → Bool) (c : Closed A) (n : ℕ) (l : n < A.nodes) (b : await n ≡ false) (mark : ℕ → Bool) (s : Spread A await n mark) where
  -- what leads to n by busy nodes is busy
  busy : (σ : List ℕ) (m : ℕ) → follow (busy_part A await) m σ ≡ some n → await m ≡ false
  busy [] m e = rw (follow-nil (busy_part A await) m n e) b
  busy (t ∷ σ) m e = let (x, a, f) = follow-first (busy_part A await) m t n σ e in (arc-busy A await m t x a).0

  along : (σ : List ℕ) (m : ℕ) → m < A.nodes → mark m ≡ true → follow (busy_part A await) m σ ≡ some n → mark n ≡ true
  along [] m k h e = rw (← follow-nil (busy_part A await) m n e) h
  along (t ∷ σ) m k h e =
      let (x, a, f) = follow-first (busy_part A await) m t n σ e in
      let (w, g) = arc-busy A await m t x a in
      along σ x (c.lands m t x k g) (s.closed m t x k h g (busy σ x f)) f

  pub marked-loop : mark n ≡ on_loop A await n
  marked-loop = iff→eq _ _ (λ e. (loop↔ A await c n l).1 (s.sound n l e)) (λ e. back ((loop↔ A await c n l).0 e))
    where
      back : BusyLoop A await n → mark n ≡ true
      back (t, σ, r) =
          let (x, a, f) = follow-first (busy_part A await) n t n σ (run_out A await (t ∷ σ) n n r) in
          let (w, g) = arc-busy A await n t x a in
          along σ x (c.lands n t x l g) (s.first t x g (busy σ x f)) f
