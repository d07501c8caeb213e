-- The reached states are exactly the tuples in which at most one task is busy.
use Rattle.scan.proofs.Basics.{ℕ, zero, suc, ◌≤◌, ◌<◌, arith, ◌≡◌, refl, sym, ap, ◌∙◌, ⊎_elim, ◌↔◌, true, some, List}
use Rattle.scan.proofs.Tests.{by_test, lt-suc-cases}
use Rattle.automaton.specs.Automaton.{follow}
use Rattle.automaton.specs.Reach.{Reachable}
use Rattle.automaton.proofs.Reach.{root-reachable, follow-reachable}
use Rattle.sequential.specs.Petri.{PetriNet}
use Rattle.composed.specs.Tuples.{tuples}
use Rattle.composed.specs.Product.{Tasks, OnePerSource, size_of, node_of, moved, awaits, waiting, all_await, product}
use Rattle.composed.specs.Composed.{OneBusy}
use Rattle.composed.proofs.Product.{OthersWait, all-waiting, some-busy, one-others, all_others}
use Rattle.composed.proofs.Steps.{State, node-below, moved_same, moved_other, moved-state, moved-others, moved-is, moved_twice, states-equal}
use Rattle.composed.proofs.Steps.{root-node, root-waits, reached-state, one-busy, task-follow}
use Rattle.composed.proofs.Composed.{served-waits}

module _ (N : PetriNet) (X : Tasks) (H : OnePerSource N X) where
  -- task i goes from its root to any of its nodes, while the others wait
  task-reached : (s i n : ℕ) → Reachable (product N X) s → i < X.number → OthersWait X s i → node_of X i s ≡ 0 → n < (X.task i).nodes
      → Reachable (product N X) (moved X i n s)
  task-reached s i n r l O z ln =
      let (σ, f) = path in
      follow-reachable (product N X) σ s (moved X i n s) r (task-follow N X H σ s i n (reached-state N X H s r) l O (rw z f))
    where
      path : (σ : List ℕ) × (follow (X.task i) 0 σ ≡ some n)
      path = unfold Reachable in ((H.schedule i l).reached n ln)

  -- the first j tasks are where s has them, the others at their roots
  record Partway (s j : ℕ) : Type 0 where
    state : ℕ
    reached : Reachable (product N X) state
    waits : all_await X state ≡ true
    done : (i : ℕ) → i < j → node_of X i state ≡ node_of X i s
    left : (i : ℕ) → i < X.number → j ≤ i → node_of X i state ≡ 0

  partway : (s : ℕ) → all_await X s ≡ true → (j : ℕ) → j ≤ X.number → Partway s j
  partway s a zero l = record {
    state = 0;
    reached = root-reachable (product N X);
    waits = root-waits N X H;
    done = λ i h. absurd (omega arith);
    left = λ i h m. root-node N X H i;
  }
  partway s a (suc j) l = next (partway s a j (omega arith))
    where
      lj : j < X.number
      lj = omega arith

      next : Partway s j → Partway s (suc j)
      next P =
          let r : ℕ = P.state in
          let n : ℕ = node_of X j s in
          let ln : n < (X.task j).nodes = node-below N X H s j lj in
          let O : OthersWait X r j = all_others X r j P.waits in
          let w : awaits X j n ≡ true = unfold waiting in (all-waiting X s a j lj) in
          record {
            state = moved X j n r;
            reached = task-reached r j n P.reached lj O (P.left j lj (omega arith)) ln;
            waits = served-waits N X H r j n lj ln O w;
            done = λ i h. ⊎_elim (λ (e : i ≡ j). rw e (moved_same N X H r j n lj ln))
                (λ (m : i < j). moved_other N X H r j i n lj (omega arith) (λ e. omega arith) ln ∙ P.done i m) (lt-suc-cases h);
            left = λ i h m. moved_other N X H r j i n lj h (λ e. omega arith) ln ∙ P.left i h (omega arith);
          }

  await-reached : (s : ℕ) → State N X H s → all_await X s ≡ true → Reachable (product N X) s
  await-reached s ls a =
      let P : Partway s X.number = partway s a X.number (omega arith) in
      rw (states-equal N X H P.state s (reached-state N X H P.state P.reached) ls P.done) at P.reached

  busy-reached : (s i : ℕ) → State N X H s → i < X.number → OthersWait X s i → Reachable (product N X) s
  busy-reached s i ls l O =
      rw back at (task-reached r i (node_of X i s) (await-reached r lr waits) l (moved-others N X H s i 0 l some O) at_root (node-below N X H s i l))
    where
      some : 0 < (X.task i).nodes
      some = (H.closed i l).root

      r : ℕ
      r = moved X i 0 s

      lr : State N X H (moved X i 0 s)
      lr = moved-state N X H s i 0 ls l some

      at_root : node_of X i (moved X i 0 s) ≡ 0
      at_root = moved_same N X H s i 0 l some

      waits : all_await X (moved X i 0 s) ≡ true
      waits = served-waits N X H s i 0 l some O (unfold waiting in (ap (awaits X i) (sym (root-node N X H i)) ∙ all-waiting X 0 (root-waits N X H) i l))

      back : moved X i (node_of X i s) (moved X i 0 s) ≡ s
      back = moved_twice N X H s i 0 (node_of X i s) ls l some (node-below N X H s i l) ∙ sym (moved-is N X H s s i (node_of X i s) ls ls l (node-below N X H s i l) refl (λ j lj d. refl))

  pub reached↔one-busy : (s : ℕ) → Reachable (product N X) s ↔ ((s < tuples (size_of X) X.number) × OneBusy X s)
  reached↔one-busy s = (
    λ r. (reached-state N X H s r, one-busy N X H s r),
    λ (ls, O). by_test (all_await X s) (λ a. await-reached s ls a)
        (λ a. let (i, l, b) = some-busy X s a in busy-reached s i ls l (one-others X s i O l b)),
  )
