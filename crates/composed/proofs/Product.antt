-- The graph of all tuples: which task fires, one busy task at most, and a task's own path followed while the others wait.
use Rattle.scan.proofs.Basics.{ℕ, zero, suc, ◌<◌, arith, ◌≡◌, refl, sym, ap, ◌∙◌, ◌⊎◌, inl, inr, ⊎_elim, Bool, true, false, not, ltb, eqb, none, some}
use mathlib.Core.Option.{map-eq-some_iff}
use borrow.Author.Tests.{ltb-true, lt-ltb, eqb-true, eqb-false, not-true}
use Rattle.scan.specs.Scan.{found, all, least}
use Rattle.scan.proofs.Tests.{by_test, true-false}
use Rattle.scan.proofs.First.{none-some, found_some}
use Rattle.scan.proofs.Every.{all_in, all-out, all-fails}
use Rattle.scan.proofs.Least.{least-hit, least-unique}
use Rattle.composed.specs.Product.{Tasks, node_of, moved, awaits, waiting, busy, all_await, has_source, turn, step_of, step}
use Rattle.composed.specs.Composed.{OneBusy}

-- a test that fails at some index
all-missing : (f : ℕ → Bool) (n : ℕ) → all f n ≡ false → (i : ℕ) × (i < n) × (f i ≡ false)
unfolding all
all-missing f zero e = true-false true refl e
all-missing f (suc n) e = by_test (all f n) (λ a. (n, omega arith, rw a at e)) (λ a. let (i, l, q) = all-missing f n a in (i, omega arith, q))

-- every task but i waits
pub record OthersWait (X : Tasks) (s i : ℕ) : Type 0 where
  pub wait : (j : ℕ) → j < X.number → (j ≡ i → ⊥) → waiting X s j ≡ true

-- an arc of the product: task i goes to node n, and the others wait
pub record Fired (X : Tasks) (s t m : ℕ) : Type 0 where
  pub by : ℕ
  pub node : ℕ
  pub task : by < X.number
  pub arc : (X.task by).arc (node_of X by s) t ≡ some node
  pub moves : moved X by node s ≡ m
  pub turns : ((all_await X s ≡ true) × (X.source by ≡ t)) ⊎ (busy X s by ≡ true)

module _ (X : Tasks) where
  pub waiting-offers : (s i : ℕ) → waiting X s i ≡ true → (n : ℕ) × ((X.task i).arc (node_of X i s) (X.source i) ≡ some n)
  unfolding waiting awaits
  waiting-offers s i e = found_some ((X.task i).arc (node_of X i s) (X.source i)) e

  pub offers-waiting : (s i n : ℕ) → (X.task i).arc (node_of X i s) (X.source i) ≡ some n → waiting X s i ≡ true
  unfolding waiting awaits found
  offers-waiting s i n e = rw e

  pub waiting-at : (s r i : ℕ) → node_of X i s ≡ node_of X i r → waiting X s i ≡ waiting X r i
  unfolding waiting
  waiting-at s r i e = ap (awaits X i) e

  pub busy-not : (s i : ℕ) → busy X s i ≡ true → waiting X s i ≡ false
  unfolding busy
  busy-not s i e = not-true (waiting X s i) e

  pub not-busy : (s i : ℕ) → waiting X s i ≡ false → busy X s i ≡ true
  unfolding busy
  not-busy s i e = ap not e

  waiting-busy : (s i : ℕ) → waiting X s i ≡ true → busy X s i ≡ false
  unfolding busy
  waiting-busy s i e = ap not e

  pub all-waiting : (s : ℕ) → all_await X s ≡ true → (i : ℕ) → i < X.number → waiting X s i ≡ true
  unfolding all_await
  all-waiting s e = all-out (waiting X s) X.number e

  pub waiting-all : (s : ℕ) → ((i : ℕ) → i < X.number → waiting X s i ≡ true) → all_await X s ≡ true
  unfolding all_await
  waiting-all s h = all_in (waiting X s) X.number h

  pub some-busy : (s : ℕ) → all_await X s ≡ false → (i : ℕ) × (i < X.number) × (busy X s i ≡ true)
  unfolding all_await
  some-busy s e = let (i, l, q) = all-missing (waiting X s) X.number e in (i, l, not-busy s i q)

  busy-some : (s i : ℕ) → i < X.number → busy X s i ≡ true → all_await X s ≡ false
  unfolding all_await
  busy-some s i l e = all-fails (waiting X s) X.number i l (busy-not s i e)

  -- ---- at most one task is busy

  pub others-one : (s i : ℕ) → OthersWait X s i → OneBusy X s
  unfolding OneBusy
  others-one s i O j k lj lk bj bk = is j lj bj ∙ sym (is k lk bk)
    where
      is : (j : ℕ) → j < X.number → busy X s j ≡ true → j ≡ i
      is j l b = by_test (eqb j i) (λ q. eqb-true j i q) (λ q. true-false (waiting X s j) (O.wait j l (eqb-false j i q)) (busy-not s j b))

  pub one-others : (s i : ℕ) → OneBusy X s → i < X.number → busy X s i ≡ true → OthersWait X s i
  unfolding OneBusy
  one-others s i O l b = record {
    wait = λ j lj d. by_test (waiting X s j) (λ q. q) (λ q. absurd (d (O j i lj l (not-busy s j q) b)));
  }

  pub all_others : (s i : ℕ) → all_await X s ≡ true → OthersWait X s i
  all_others s i e = record { wait = λ j l d. all-waiting s e j l }

  -- what is all but one and that one is all
  pub others-all : (s i : ℕ) → OthersWait X s i → waiting X s i ≡ true → all_await X s ≡ true
  others-all s i O w = waiting-all s (λ j l. by_test (eqb j i) (λ q. rw (eqb-true j i q) w) (λ q. O.wait j l (eqb-false j i q)))

  -- ---- whose turn it is

  pub turn-busy : (s t i : ℕ) → i < X.number → OthersWait X s i → busy X s i ≡ true → turn X s t ≡ i
  unfolding turn
  turn-busy s t i l O b =
      rw (busy-some s i l b)
      (least-unique (busy X s) X.number i (record {
        within = omega arith;
        hit = λ _. b;
        low = λ j h. waiting-busy s j (O.wait j (omega arith) (λ e. omega arith));
      }))

  pub step-turn : (s t i n : ℕ) → i < X.number → turn X s t ≡ i → (X.task i).arc (node_of X i s) t ≡ some n → step X s t ≡ some (moved X i n s)
  unfolding step step_of
  step-turn s t i n l e a = rw (e, lt-ltb i X.number l, a)

  pub step-out : (s t m : ℕ) → step X s t ≡ some m → Fired X s t m
  unfolding step step_of
  step-out s t m e =
      by_test (ltb (turn X s t) X.number)
      (λ q.
      let (n, a, h) = (map-eq-some_iff (λ n. moved X (turn X s t) n s) ((X.task (turn X s t)).arc (node_of X (turn X s t) s) t)).0 (rw q at e) in
      record { by = turn X s t; node = n; task = ltb-true (turn X s t) X.number q; arc = a; moves = h; turns = turns (ltb-true (turn X s t) X.number q) })
      (λ q. none-some none m refl (rw q at e))
    where
      turns : turn X s t < X.number → ((all_await X s ≡ true) × (X.source (turn X s t) ≡ t)) ⊎ (busy X s (turn X s t) ≡ true)
      turns l =
          by_test (all_await X s)
          (λ q. inl (q, eqb-true (X.source (turn X s t)) t (unfold has_source in (rw (taken q) (least-hit (has_source X t) X.number (rw (taken q) at l))))))
          (λ q. inr (rw (fired q) (least-hit (busy X s) X.number (rw (fired q) at l))))
        where
          taken : all_await X s ≡ true → turn X s t ≡ least (has_source X t) X.number
          taken q = unfold turn in (rw q)

          fired : all_await X s ≡ false → turn X s t ≡ least (busy X s) X.number
          fired q = unfold turn in (rw q)

  -- in a state with at most one busy task the others wait for the one that fires
  pub fired-others : (s t m : ℕ) → OneBusy X s → (F : Fired X s t m) → OthersWait X s F.by
  fired-others s t m O F = ⊎_elim (λ (a, e). all_others s F.by a) (λ b. one-others s F.by O F.task b) F.turns

  -- where a task is busy and the others wait, it is that one that fires
  pub fires-alone : (s t m i : ℕ) → i < X.number → OthersWait X s i → busy X s i ≡ true → (F : Fired X s t m) → F.by ≡ i
  unfolding OneBusy
  fires-alone s t m i l O b F =
      ⊎_elim (λ (a, e). true-false (waiting X s i) (all-waiting s a i l) (busy-not s i b))
      (λ c. others-one s i O F.by i F.task l c b) F.turns
