-- The composed graph is a schedule of the whole net if every transition that a reached state fires is enabled.
use Prim.Native.Nat.{ℕ, ◌≤◌, ◌<◌}
use mathlib.Core.Path.{◌≡◌, refl, ap, ◌∙◌}
use mathlib.Core.Logic.{◌↔◌, ⊎_elim}
use mathlib.Core.Bool.{true, false}
use mathlib.Core.List.{List, []}
use mathlib.Core.Option.{some}
use Rattle.scan.proofs.Tests.{by_test, true-false}
use Rattle.scan.specs.Scan.{found}
use Rattle.automaton.specs.Automaton.{Closed, follow}
use Rattle.automaton.specs.Reach.{Reachable}
use Rattle.automaton.specs.BreadthFirst.{BreadthFirst}
use Rattle.automaton.specs.Quotient.{Confined}
use Rattle.automaton.proofs.Automaton.{follow-lands}
use Rattle.sequential.specs.Petri.{PetriNet}
use Rattle.sequential.specs.Petri.{Source}
use Rattle.sequential.specs.Schedule.{Offers, Await, OneChoiceSet, IsSchedule}
use Rattle.sequential.proofs.Choices.{choice-source}
use Rattle.composed.specs.Tuples.{tuples}
use Rattle.sequential.specs.Only.{only}
use Rattle.scan.proofs.First.{found_some}
use Rattle.composed.specs.Product.{Tasks, OnePerSource, size_of, node_of, moved, awaits, waiting, busy, all_await, product}
use Rattle.composed.specs.Composed.{trimmed_number, ReachedPart, composed, Independent}
use Rattle.composed.proofs.Trimmed.{part-carries, reached-part, trimmed-breadth-first, trimmed-closed, trimmed-confined, trimmed-transitions, trimmed-size}
use Rattle.composed.proofs.Removed.{left-source, await-alone, busy-choice, await-offers}
use Rattle.sequential.specs.OnReached.{HoldsOnReached}
use Rattle.sequential.proofs.Carried.{carried-schedule}
use Rattle.composed.proofs.Product.{OthersWait, Fired, waiting-offers, offers-waiting, busy-not, all-waiting, some-busy, one-others, all_others, others-all, step-out, fires-alone}
use Rattle.composed.proofs.Steps.{node-below, moved_same, moved-others, root-waits, task-step, product-closed, reached-state, one-busy, task-follow}
use Rattle.composed.proofs.Counts.{root-marking, step-lands, reached-balanced}

module _ (N : PetriNet) (X : Tasks) (H : OnePerSource N X) where
  -- ---- the await nodes of a task

  -- the await nodes of a task are those that offer its own source
  pub awaits↔ : (i n : ℕ) → i < X.number → n < (X.task i).nodes → (awaits X i n ≡ true) ↔ Await (only N (X.source i)) (X.task i) n
  unfolding awaits found
  awaits↔ i n l ln = (
    λ e t lt.
        let o : Offers N (X.task i) n (X.source i) = found_some ((X.task i).arc n (X.source i)) e in (
          λ q. (left-source N (X.source i) (H.bounded i l) (H.source i l) t).1
              (await-alone N (X.source i) (H.bounded i l) (H.source i l) (X.task i) n t lt ((H.schedule i l).choices n ln) o q),
          λ h. rw ((left-source N (X.source i) (H.bounded i l) (H.source i l) t).0 h) o,
        ),
    λ h. let (m, e) = await-offers N (X.source i) (H.bounded i l) (H.source i l) (X.task i) n h in ap found e,
  )

  -- ---- what a state offers

  -- an all-await state offers exactly the sources
  pub await-sources : (s : ℕ) → all_await X s ≡ true → Await N (product N X) s
  unfolding product
  await-sources s a t l = (is, offered)
    where
      is : Offers N (product N X) s t → Source N t
      is (m, e) =
          let F : Fired X s t m = step-out X s t m e in
          ⊎_elim (λ (_, q). rw q at (H.source F.by F.task))
          (λ b. true-false (waiting X s F.by) (all-waiting X s a F.by F.task) (busy-not X s F.by b)) F.turns

      offered : Source N t → Offers N (product N X) s t
      offered h =
          let (i, li, q) = H.every t l h in
          let (n, o) = waiting-offers X s i (all-waiting X s a i li) in
          (moved X i n s, task-step N X H s i t n li (all_others X s i a) (rw q at o))

  -- and a state that offers them is all-await: a busy task would offer a source that is removed from it, or its own
  pub sources-await : (s : ℕ) → Reachable (product N X) s → Await N (product N X) s → all_await X s ≡ true
  unfolding product
  sources-await s r w = by_test (all_await X s) (λ a. a) (λ a. absurd (busy-none a))
    where
      busy-none : all_await X s ≡ false → ⊥
      busy-none a =
          let (i, l, b) = some-busy X s a in
          let O : OthersWait X s i = one-others X s i (one-busy N X H s r) l b in
          let (m, e) = (w (X.source i) (H.bounded i l)).1 (H.source i l) in
          let F : Fired X s (X.source i) m = step-out X s (X.source i) m e in
          let q : F.by ≡ i = fires-alone X s (X.source i) m i l O b F in
          true-false (waiting X s i) (offers-waiting X s i F.node (rw q at F.arc)) (busy-not X s i b)

  -- a state with a busy task offers that task's choice set, which is one of the whole net
  busy-offers : (s i : ℕ) → i < X.number → OthersWait X s i → busy X s i ≡ true → OneChoiceSet N (product N X) s
  unfolding product
  busy-offers s i l O b = let (v, lv, h) = choice in (v, lv, λ u lu. (λ o. (h u lu).0 (task u o), λ c. whole u ((h u lu).1 c)))
    where
      idle : Offers N (X.task i) (node_of X i s) (X.source i) → ⊥
      idle (n, a) = true-false (waiting X s i) (offers-waiting X s i n a) (busy-not X s i b)

      choice : OneChoiceSet N (X.task i) (node_of X i s)
      choice = busy-choice N (X.source i) (H.bounded i l) (H.source i l) (X.task i) (node_of X i s) ((H.schedule i l).choices (node_of X i s) (node-below N X H s i l)) idle

      -- whoever fires in s is i
      is : (t m : ℕ) → (F : Fired X s t m) → F.by ≡ i
      is t m F = fires-alone X s t m i l O b F

      task : (u : ℕ) → Offers N (product N X) s u → Offers N (X.task i) (node_of X i s) u
      task u (m, e) = let F : Fired X s u m = step-out X s u m e in (F.node, rw (is u m F) at F.arc)

      whole : (u : ℕ) → Offers N (X.task i) (node_of X i s) u → Offers N (product N X) s u
      whole u (n, a) = (moved X i n s, task-step N X H s i u n l O a)

  pub state-choice : (s : ℕ) → Reachable (product N X) s → OneChoiceSet N (product N X) s
  state-choice s r =
      by_test (all_await X s)
      (λ a. (
        X.source 0,
        (H.bounded 0 H.some, (H.source 0 H.some).0),
        λ u lu. let (f, g) = choice-source N (X.source 0) u (H.source 0 H.some) in let w = await-sources s a u lu in
            (λ o. g (w.0 o), λ c. w.1 (f c)),
      ))
      (λ a. let (i, l, b) = some-busy X s a in busy-offers s i l (one-others X s i (one-busy N X H s r) l b) b)

  -- ---- serving a task

  -- a task that goes to an await node while the others wait leaves all waiting
  pub served-waits : (s i n : ℕ) → i < X.number → n < (X.task i).nodes → OthersWait X s i → awaits X i n ≡ true → all_await X (moved X i n s) ≡ true
  served-waits s i n l ln O w =
      others-all X (moved X i n s) i (moved-others N X H s i n l ln O) (unfold waiting in (ap (awaits X i) (moved_same N X H s i n l ln) ∙ w))

  pub state-returns : (s : ℕ) → Reachable (product N X) s → (σ : List ℕ) × (m : ℕ) × (follow (product N X) s σ ≡ some m) × Await N (product N X) m
  state-returns s r = by_test (all_await X s) (λ a. ([], s, unfold follow in refl, await-sources s a)) back
    where
      back : all_await X s ≡ false → (σ : List ℕ) × (m : ℕ) × (follow (product N X) s σ ≡ some m) × Await N (product N X) m
      back a =
          let (i, l, b) = some-busy X s a in
          let O : OthersWait X s i = one-others X s i (one-busy N X H s r) l b in
          let (σ, n, f, w) = (H.schedule i l).returns (node_of X i s) (node-below N X H s i l) in
          let ln : n < (X.task i).nodes = follow-lands (X.task i) (H.closed i l) σ (node_of X i s) n (node-below N X H s i l) f in
          let o : awaits X i n ≡ true = offers-await i n (await-offers N (X.source i) (H.bounded i l) (H.source i l) (X.task i) n w) in
          (σ, moved X i n s, task-follow N X H σ s i n (reached-state N X H s r) l O f, await-sources (moved X i n s) (served-waits s i n l ln O o))
        where
          offers-await : (i n : ℕ) → Offers N (X.task i) n (X.source i) → awaits X i n ≡ true
          offers-await i n (m, e) = unfold awaits found in (rw e)

  -- ---- the schedule

  pub product-schedule : Independent N X → HoldsOnReached N (product N X)
  product-schedule I = record {
    starts = unfold product in (root-marking N X H);
    choices = state-choice;
    root_awaits = await-sources 0 (root-waits N X H);
    enables = λ s t m r e. unfold product in (I s t m r e);
    lands = λ s t m r e. unfold product in (step-lands N X H s t m (step-out X s t m e) (reached-balanced N X H I s r) (I s t m r e));
    returns = state-returns;
  }

  pub composed-part : ReachedPart (product N X) (composed N X) (trimmed_number (product N X))
  unfolding composed
  composed-part = reached-part (product N X) (product-closed N X H)

  -- the main theorem
  pub composed-schedule : Independent N X → IsSchedule N (composed N X)
  unfolding composed
  composed-schedule I =
      (carried-schedule N (part-carries composed-part)).1 (product-schedule I)

  -- §11.5
  pub composed-breadth-first : BreadthFirst (composed N X)
  unfolding composed
  composed-breadth-first = trimmed-breadth-first (product N X) (product-closed N X H)

  -- what the encoding as a sheet asks besides
  pub composed-closed : Closed (composed N X)
  unfolding composed
  composed-closed = trimmed-closed (product N X) (product-closed N X H)

  pub composed-confined : Confined (composed N X)
  unfolding composed
  composed-confined = trimmed-confined (product N X)

  pub composed-transitions : (composed N X).transitions ≡ N.transitions
  unfolding composed product
  composed-transitions = trimmed-transitions (product N X)

  -- no more nodes than there are tuples
  pub composed-size : (composed N X).nodes ≤ tuples (size_of X) X.number
  unfolding composed product
  composed-size = trimmed-size (product N X) (product-closed N X H)
