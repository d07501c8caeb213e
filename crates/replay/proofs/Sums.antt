-- The sum over the firings of a log is the sum over the transitions, each as often as it fires. And how great such sums can be.
use Rattle.std.specs.Prelude.{Ok}
use Rattle.scan.proofs.Basics.{ℕ, zero, suc, ◌+◌, ◌*◌, ◌≤◌, ◌<◌, arith, ◌≡◌, refl, sym, ap, ◌∙◌, ⊎_elim, Bool, true, false, cond, eqb, List, length, get_or, set, replicate}
use Prim.Native.Nat.{zero-le}
use native.Mathlib.Nat.{add-mul, mul-le-mul, suc-mul, zero-mul, one-mul}
use lib.Seq.{get_or-set_same, get_or-set_other}
use Rattle.scan.proofs.Tests.{eqb-true, eqb-false, eq-eqb, ne_eqb, by_test, lt-suc-cases}
use Rattle.scan.specs.Scan.{bit, count, sum, tabulate}
use Rattle.scan.proofs.Sum.{sum_more, sum-ext, sum-plus, sum_zeros}
use Rattle.scan.proofs.Count.{count-more, count-le}
use Rattle.scan.proofs.Tabulate.{tabulate-at, tabulate-ext}
use Rattle.refusal.specs.Limits.{most_firings, most_count}
use Rattle.net.specs.Check.{net_reply}
use Rattle.net.specs.Accessors.{taken_row_reply, put_row_reply}
use Rattle.net.proofs.Laws.{accessors, taken_most, put_most}
use Rattle.sequential.specs.Petri.{petri_net}
use Rattle.replay.specs.Log.{firing_count, fired_at, moved_by, moved}
use Rattle.replay.specs.Tally.{fires, fired_times, side_of, weighed_by, weighed, added, AtMost}

-- ---- sums

pub sum-most : (f : ℕ → ℕ) (b n : ℕ) → ((i : ℕ) → i < n → f i ≤ b) → sum f n ≤ n * b
unfolding sum
sum-most f b zero h = zero-le
sum-most f b (suc n) h = rw (suc-mul n b) (omega (arith, h n (omega arith), sum-most f b n (λ i l. h i (omega arith))))

-- f at x alone
one : (ℕ → ℕ) → ℕ → ℕ → ℕ
one f x t = bit (eqb x t) * f t

one-other : (f : ℕ → ℕ) (x t : ℕ) → (x ≡ t → ⊥) → one f x t ≡ 0
unfolding bit one
one-other f x t d = rw (ne_eqb x t d) (zero-mul (f t))

one-there : (f : ℕ → ℕ) (x : ℕ) → one f x x ≡ f x
unfolding bit one
one-there f x = rw (eq-eqb x x refl) (one-mul (f x))

sum_one : (f : ℕ → ℕ) (x n : ℕ) → x < n → sum (one f x) n ≡ f x
unfolding sum
sum_one f x zero l = absurd (omega arith)
sum_one f x (suc n) l =
    ⊎_elim (λ (q : x ≡ n). rw (← q) (omega (arith, sum_zeros (one f x) x (λ i k. one-other f x i (λ e. omega arith)), one-there f x)))
    (λ k. omega (arith, sum_one f x n k, one-other f x n (λ e. omega arith))) (lt-suc-cases l)

-- ---- by firing, by transition

module _ (f g : ℕ → ℕ) where
  abbrev parikh : ℕ → ℕ → ℕ
  parikh n t = count (λ i. eqb (g i) t) n * f t

  parikh-more : (n t : ℕ) → parikh (suc n) t ≡ parikh n t + one f (g n) t
  unfolding count one
  parikh-more n t = add-mul (count (λ i. eqb (g i) t) n) (bit (eqb (g n) t)) (f t)

  by-transition : (T n : ℕ) → ((i : ℕ) → i < n → g i < T) → sum (λ i. f (g i)) n ≡ sum (parikh n) T
  unfolding sum
  by-transition T zero h = sym (sum_zeros (parikh 0) T (λ t l. unfold count in (zero-mul (f t))))
  by-transition T (suc n) h =
      let a = by-transition T n (λ i l. h i (omega arith)) in
      let b = sum_one f (g n) T (h n (omega arith)) in
      let c = sum-ext (parikh (suc n)) (λ t. parikh n t + one f (g n) t) T (λ t l. parikh-more n t) in
      omega (arith, sum-plus (parikh n) (one f (g n)) T)

-- what the transitions move, each as often as it fires, is what the firings move
module _ (moves : ℕ → ℕ → ℕ) (log : List ℕ) (T : ℕ) (few : T ≤ 32) (low : (i : ℕ) → i < firing_count log → fired_at log i < T) where
  pub weighed-is : (p : ℕ) → weighed moves (tabulate (fired_times log) 32) T p ≡ moved moves log p
  unfolding weighed weighed_by moved moved_by fired_times fires
  weighed-is p =
      sum-ext (weighed_by moves (tabulate (fired_times log) 32) p) (parikh (λ t. moves t p) (fired_at log) (firing_count log)) T
      (λ t l. ap (λ (x : ℕ). x * moves t p) (tabulate-at (fired_times log) 0 32 t (omega arith)))
      ∙ sym (by-transition (λ t. moves t p) (fired_at log) T (firing_count log) low)

-- ---- one firing more

module _ (log : List ℕ) where
  pub times_none : (t : ℕ) → t < 32 → get_or (replicate 32 0) t 0 ≡ count (fires log t) 0
  unfolding count
  times_none t l = unfold tabulate in (tabulate-at (λ (i : ℕ). 0) 0 32 t l)

  pub times_more : (parikh : List ℕ) (i : ℕ) → length parikh ≡ 32 → fired_at log i < 32 → ((t : ℕ) → t < 32 → get_or parikh t 0 ≡ count (fires log t) i)
      → (t : ℕ) → t < 32 → get_or (set parikh (fired_at log i) (get_or parikh (fired_at log i) 0 + 1)) t 0 ≡ count (fires log t) (i + 1)
  times_more parikh i e l h t k =
      by_test (eqb (fired_at log i) t)
      (λ q. let x = eqb-true (fired_at log i) t q in
      let y : bit (fires log t i) ≡ 1 = unfold fires bit in (rw q) in
      rw x (get_or-set_same parikh t (get_or parikh t 0 + 1) 0 (omega arith) ∙ omega (arith, h t k, count-more (fires log t) i)))
      (λ q. let x = eqb-false (fired_at log i) t q in
      let y : bit (fires log t i) ≡ 0 = unfold fires bit in (rw q) in
      get_or-set_other parikh (fired_at log i) t (get_or parikh (fired_at log i) 0 + 1) 0 (λ z. x (sym z)) ∙ omega (arith, h t k, count-more (fires log t) i))

  pub times-most : firing_count log ≤ most_firings → AtMost 4096 (tabulate (fired_times log) 32)
  unfolding fired_times
  times-most l t k = rw (tabulate-at (fired_times log) 0 32 t k) (omega (arith, count-le (fires log t) (firing_count log)))

-- ---- a row more

module _ (moves : ℕ → ℕ → ℕ) (parikh : List ℕ) where
  pub weighed-none : replicate 32 0 ≡ tabulate (weighed moves parikh 0) 32
  unfolding tabulate weighed sum
  weighed-none = refl

  pub weighed-more : (sums row : List ℕ) (t : ℕ) → sums ≡ tabulate (weighed moves parikh t) 32 → row ≡ tabulate (moves t) 32
      → tabulate (added sums row (get_or parikh t 0)) 32 ≡ tabulate (weighed moves parikh (t + 1)) 32
  unfolding added weighed weighed_by
  weighed-more sums row t a b =
      tabulate-ext (added sums row (get_or parikh t 0)) (weighed moves parikh (t + 1)) 32
      (λ p l. rw (a, b, tabulate-at (weighed moves parikh t) 0 32 p l, tabulate-at (moves t) 0 32 p l) (sym (sum_more (weighed_by moves parikh p) t)))

  -- 32 transitions, each 4,096 times at most, each at most 1,000,000,000
  pub weighed-most : ((t p : ℕ) → moves t p ≤ most_count) → AtMost 4096 parikh → (n : ℕ) → n ≤ 32 → (p : ℕ) → weighed moves parikh n p ≤ 1125899906842624
  unfolding weighed weighed_by
  weighed-most m h n l p =
      let x = sum-most (weighed_by moves parikh p) 4096000000000 n (λ t k. mul-le-mul (h t (omega arith)) (m t p)) in
      let b : 4096000000000 ≤ 4096000000000 = omega arith in
      omega (arith, mul-le-mul l b)

-- ---- the rows of the net

module _ (net : List ℕ) (accepted : net_reply net ≡ Ok tt) where
  pub side-most : (putting : Bool) (t p : ℕ) → side_of (petri_net net) putting t p ≤ most_count
  side-most true t p = put_most net accepted t p
  side-most false t p = taken_most net accepted t p

  pub side-row : (putting : Bool) (t : ℕ) → cond putting (put_row_reply net t) (taken_row_reply net t) ≡ tabulate (side_of (petri_net net) putting t) 32
  side-row true t = (accessors net accepted).puts_row t
  side-row false t = (accessors net accepted).takes_row t
