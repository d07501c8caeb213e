-- Counting and weighing turn by turn: what is known after i firings and after t transitions; and both sides of a log, from what the rows give.
use Rattle.scan.proofs.Basics.{ℕ, ◌+◌, ◌≤◌, ◌<◌, arith, ◌≡◌, refl, ap, ◌∙◌, Bool, true, false, cond, List, ◌++◌, length, get_or, take, drop, set, replicate, length-set}
use Rattle.scan.specs.Scan.{count, sum, tabulate}
use Rattle.scan.proofs.Count.{count-le}
use Rattle.scan.proofs.Sum.{sum-ext}
use Rattle.scan.specs.Placed.{placed}
use Rattle.scan.proofs.Placed.{placed-front}
use Rattle.scan.proofs.Tabulate.{tabulate-length, tabulate-at, tabulate-is, tabulate-ext, take-tabulate}
use Rattle.net.specs.Net.{place_count, transition_count}
use Rattle.net.specs.Accessors.{taken_row_reply, put_row_reply}
use Rattle.net.proofs.Laws.{sizes}
use Rattle.sequential.specs.Petri.{petri_net}
use Rattle.replay.specs.Log.{firing_count, fired_at, moved}
use Rattle.replay.specs.Calls.{totals_of, taken_row, put_row}
use Rattle.replay.specs.Tally.{LogHolds, fires, fired_times, side_of, weighed, added, at, AtMost, Countable, Weighable, SideDone, Settled}
use Rattle.replay.proofs.Sums.{weighed-is, times_none, times_more, times-most, weighed-none, weighed-more, weighed-most, side-most, side-row}

-- ---- counting

pub record Counting (log : List ℕ) (n : ℕ) (parikh : List ℕ) (i : ℕ) : Type 0 where
  pub holds : LogHolds log
  pub all : n ≡ firing_count log
  pub low : (j : ℕ) → j < n → get_or log (1 + j) 0 < 32
  pub within : i ≤ n
  pub long : length parikh ≡ 32
  pub times : (t : ℕ) → t < 32 → get_or parikh t 0 ≡ count (fires log t) i

pub counts-none : {log : List ℕ} → LogHolds log → ((i : ℕ) → i < firing_count log → fired_at log i < 32) → Counting log (get_or log 0 0) (replicate 32 0) 0
unfolding firing_count fired_at
counts-none {log} h l = record { holds = h; all = refl; low = l; within = omega arith; long = refl; times = times_none log }

module _ {log parikh : List ℕ} {n i : ℕ} (w : Counting log n parikh i) where
  module _ (l : i < n) where
    -- no count is above the number of firings, so one more fits
    pub counts-fit : (get_or log (1 + i) 0 < 32) × (get_or parikh (get_or log (1 + i) 0) 0 ≤ 4096)
    counts-fit =
        let t = w.low i l in
        (t, omega (arith, w.times (get_or log (1 + i) 0) t, count-le (fires log (get_or log (1 + i) 0)) i, w.all, w.holds.few))

    pub counts-more : Counting log n (set parikh (get_or log (1 + i) 0) (get_or parikh (get_or log (1 + i) 0) 0 + 1)) (i + 1)
    counts-more = record {
      holds = w.holds;
      all = w.all;
      low = w.low;
      within = omega arith;
      long = simp length-set w.long;
      times = unfold fired_at in (times_more log parikh i w.long (w.low i l) w.times);
    }

  pub counts_all : n ≤ i → parikh ≡ tabulate (fired_times log) 32
  unfolding fired_times
  counts_all l =
      let q : i ≡ firing_count log = omega (arith, w.all, w.within) in
      tabulate-is (fired_times log) 0 32 parikh w.long (λ t k. w.times t k ∙ ap (count (fires log t)) q)

-- ---- weighing

-- no sum of a row is above 2 ^ 50
row-most : {net parikh row : List ℕ} {t : ℕ} (putting : Bool) → Weighable net parikh → t ≤ 32 → row ≡ tabulate (weighed (side_of (petri_net net) putting) parikh t) 32 → AtMost 1125899906842624 row
row-most {parikh = parikh} {t = t} putting W l e p k =
    rw (e, tabulate-at (weighed _ parikh t) 0 32 p k) (weighed-most _ parikh (side-most _ W.accepted putting) W.most t l p)

pub record Weighing (net parikh : List ℕ) (putting : Bool) (transitions : ℕ) (sums : List ℕ) (t : ℕ) : Type 0 where
  pub weighable : Weighable net parikh
  pub all : transitions ≡ transition_count net
  pub few : transitions ≤ 32
  pub within : t ≤ transitions
  pub so_far : sums ≡ tabulate (weighed (side_of (petri_net net) putting) parikh t) 32

pub weighs-none : {net parikh : List ℕ} {putting : Bool} {transitions : ℕ} → Weighable net parikh → transitions ≡ transition_count net → Weighing net parikh putting transitions (replicate 32 0) 0
weighs-none W e = let s = sizes _ W.accepted in record { weighable = W; all = e; few = omega arith; within = omega arith; so_far = weighed-none _ _ }

module _ {net parikh sums : List ℕ} {putting : Bool} {transitions t : ℕ} (w : Weighing net parikh putting transitions sums t) where
  pub weighs-fit : t < transitions → (get_or parikh t 0 ≤ 4096) × AtMost 1125899906842624 sums
  weighs-fit l = (w.weighable.most t (omega (arith, w.few)), row-most putting w.weighable (omega (arith, w.few)) w.so_far)

  pub weighs-more : {row next : List ℕ} → t < transitions → row ≡ cond putting (put_row_reply net t) (taken_row_reply net t)
      → next ≡ tabulate (added sums row (get_or parikh t 0)) 32 → Weighing net parikh putting transitions next (t + 1)
  weighs-more {row} l r e = record {
    weighable = w.weighable;
    all = w.all;
    few = w.few;
    within = omega arith;
    so_far = e ∙ weighed-more _ parikh sums row t w.so_far (r ∙ side-row net w.weighable.accepted putting t);
  }

  pub weighs-all : transitions ≤ t → sums ≡ tabulate (weighed (side_of (petri_net net) putting) parikh (transition_count net)) 32
  weighs-all l =
      let q : t ≡ transition_count net = omega (arith, w.all, w.within) in
      w.so_far ∙ ap (λ (x : ℕ). tabulate (weighed (side_of (petri_net net) putting) parikh x) 32) q

-- ---- one side, and both

module _ {net parikh row : List ℕ} {places : ℕ} (putting : Bool) (W : Weighable net parikh) (e : places ≡ place_count net)
    (r : row ≡ tabulate (weighed (side_of (petri_net net) putting) parikh (transition_count net)) 32) where
  abbrev sums : ℕ → ℕ
  sums = weighed (side_of (petri_net net) putting) parikh (transition_count net)

  pub side-fits : (places ≤ 32) × AtMost 1125899906842624 row
  side-fits = let s = sizes net W.accepted in (omega arith, row-most putting W s.few_transitions r)

  pub side-done : {out out' : List ℕ} {all : ℕ} → place_count net ≤ length out → out' ≡ placed out 0 (take places row) → all ≡ sum (at row) places
      → SideDone (side_of (petri_net net) putting) parikh (transition_count net) (place_count net) out all out'
  side-done {out} l w t =
      let s = sizes net W.accepted in
      let n = tabulate-length sums (place_count net) in
      record {
        written = w ∙ rw (e, r, take-tabulate sums (place_count net) 32 s.few_places) (placed-front (tabulate sums (place_count net)) out (omega arith) ∙ rw n);
        total = t ∙ rw (e, r) (sum-ext _ sums (place_count net) (λ p k. tabulate-at sums 0 32 p (omega arith)));
      }

module _ {net log parikh : List ℕ} (c : Countable net log) (o : parikh ≡ tabulate (fired_times log) 32) where
  pub weighable : Weighable net parikh
  weighable = record { accepted = c.accepted; most = rw o (times-most log c.holds.few) }

  abbrev P : ℕ
  P = place_count net

  module _ (moves : ℕ → ℕ → ℕ) where
    weighs : (p : ℕ) → p < P → weighed moves parikh (transition_count net) p ≡ moved moves log p
    weighs p l = rw o (weighed-is moves log (transition_count net) (sizes net c.accepted).few_transitions c.low p)

    weighs-row : (out : List ℕ) → tabulate (weighed moves parikh (transition_count net)) P ++ drop P out ≡ tabulate (moved moves log) P ++ drop P out
    weighs-row out = rw (tabulate-ext _ (moved moves log) P weighs)

    weighs-total : sum (weighed moves parikh (transition_count net)) P ≡ sum (moved moves log) P
    weighs-total = sum-ext _ (moved moves log) P weighs

  pub both-totals : {taken put taken' put' : List ℕ} {x y : ℕ} → SideDone (side_of (petri_net net) false) parikh (transition_count net) P taken x taken'
      → SideDone (side_of (petri_net net) true) parikh (transition_count net) P put y put' → Settled net log taken put (record { taken = x; put = y }) taken' put'
  unfolding totals_of taken_row put_row
  both-totals {taken} {put} s t = record {
    all = rw (s.total ∙ weighs-total (petri_net net).taken, t.total ∙ weighs-total (petri_net net).put);
    taken_written = s.written ∙ weighs-row (petri_net net).taken taken;
    put_written = t.written ∙ weighs-row (petri_net net).put put;
  }
