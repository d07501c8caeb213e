-- The proof obligations of the recursion: a node that awaits, whose time is known, that is begun or finished, and the turns over its arcs.
use Rattle.scan.proofs.Basics.{ℕ, ◌+◌, ◌*◌, ◌-◌, ◌≤◌, ◌<◌, arith, ◌≡◌, sym, ◌∙◌, true, false, List, none, get_or, set, length-set}
use Prim.Native.Nat.{min, max}
use Rattle.net.specs.Net.{transition_count}
use Rattle.sequential.specs.Words.{node_count, entry_key, entry_value}
use Rattle.reaction.specs.Extreme.{AtMost, AtLeast}
use Rattle.reaction.specs.ToGo.{best, worst, values_over}
use Rattle.reaction.specs.Memo.{unvisited, After}
use Rattle.reaction.specs.Words.{early, late}
use Rattle.reaction.specs.Call.{sheet_graph, sheet_await}
use Rattle.reaction.specs.Known.{Passed}
use Rattle.reaction.proofs.Extreme.{picks-min, picks-max}
use Rattle.reaction.proofs.Unique.{depth_falls}
use Rattle.reaction.proofs.Turns.{turn-start, turn-skip, turn-arc, turn_end}
use Rattle.reaction.proofs.Memo.{unvisited-falls, unvisited-after, noted-begun, noted-lower, noted-after, after_none, after-trans}
use Rattle.reaction.proofs.Times.{way, node-times}
use Rattle.react.specs.declared.case.Case.{Case}
use Rattle.react.specs.declared.case.Case.TheVariants.{Best, Worst}
use Rattle.react.specs.Rows.{IsNode, Mapped}
use Rattle.react.specs.Cases.{duration_of, pick_of, start_of, time_of}
use Rattle.react.specs.Times.{depth_of, Entered, Opened, Worked}
use Rattle.react.proofs.ArcRows.{whole, few_nodes, passes}
use Rattle.react.proofs.RowWalks.{Walks, walks-start, none-behind, within, reaches, none_between, walks_more, arc, target}

-- ---- the best case and the worst one

pub pick-start : (case : Case) (x : ℕ) → x ≤ 4294967295 → pick_of case (start_of case) x ≡ x
unfolding pick_of start_of
pick-start Worst x l = omega arith
pick-start Best x l = omega arith

module _ {net sheet words : List ℕ} (p : Passed net sheet words) where
  pub time-most : (case : Case) (n : ℕ) → IsNode sheet n → time_of net sheet words case n ≤ 127000000
  unfolding time_of
  time-most Worst n l = (node-times net sheet words p n l).fits
  time-most Best n l = let t = node-times net sheet words p n l in omega (arith, t.ordered, t.fits)

  pub duration-most : (case : Case) (t : ℕ) → t < transition_count net → duration_of words case t ≤ 1000000
  unfolding duration_of
  duration-most Worst t k = (p.durations_pass.each t k).late_fits
  duration-most Best t k = (p.durations_pass.each t k).early_fits

  pub sum-most : (case : Case) {t n own ahead : ℕ} → t < transition_count net → IsNode sheet n → own ≡ duration_of words case t → ahead ≡ time_of net sheet words case n
      → own + ahead ≤ 128000000
  sum-most case {t} {n} k l d e = omega (arith, d, e, duration-most case t k, time-most case n l)

module _ {net sheet words starts : List ℕ} (m : Mapped net sheet starts) (p : Passed net sheet words) where
  pub time-await : (case : Case) (n : ℕ) → IsNode sheet n → sheet_await net sheet n ≡ true → time_of net sheet words case n ≡ 0
  unfolding time_of
  time-await Worst n l w = (node-times net sheet words p n l).worst_solves.awaits w
  time-await Best n l w = (node-times net sheet words p n l).best_solves.awaits w

  turns-end : (case : Case) (start n : ℕ) → IsNode sheet n → sheet_await net sheet n ≡ false
      → values_over (sheet_graph net sheet) (sheet_await net sheet) (pick_of case) (duration_of words case) (time_of net sheet words case) start n (transition_count net)
      ≡ time_of net sheet words case n
  unfolding time_of pick_of duration_of worst best
  turns-end Worst start n l b = turn_end (sheet_graph net sheet) (sheet_await net sheet) (whole m) p.ending (way net sheet words p)
      max (late words) AtLeast picks-max start n l b
  turns-end Best start n l b = turn_end (sheet_graph net sheet) (sheet_await net sheet) (whole m) p.ending (way net sheet words p)
      min (early words) AtMost picks-min start n l b

  -- ---- a node

  module _ {case : Case} {n : ℕ} {memo : List ℕ} (e : Entered net sheet words case n memo) where
    pub node_low : n < 128
    node_low = omega (arith, e.node, few_nodes m)

    pub worked-await : sheet_await net sheet n ≡ true → Worked net sheet words case n memo memo 0
    worked-await h = record {
      value = sym (time-await case n e.node h);
      after = after_none _ _ _ memo e.keeps.told;
    }

    module _ (z : get_or memo n 0 ≤ 0) where
      pub begin-falls : unvisited (set memo n 1) < unvisited memo
      begin-falls = unvisited-falls memo n node_low (omega (arith, node_low, e.long)) (omega arith)

      pub begins : sheet_await net sheet n ≡ false → Opened net sheet words case n (set memo n 1)
      begins b = record {
        node = e.node;
        long = length-set memo n 1 ∙ e.long;
        busy = b;
        keeps = noted-begun (time_of net sheet words case) (depth_of net sheet words) (node_count sheet) _ n memo e.keeps (omega arith) (omega (arith, node_low, e.long));
      }

-- ---- the loop over the arcs of node n: those before entry i

pub record Going (net sheet words starts : List ℕ) (case : Case) (n : ℕ) (old : List ℕ) (first : ℕ) (memo : List ℕ) (time i : ℕ) : Type 0 where
  pub passed : Passed net sheet words
  pub opened : Opened net sheet words case n old
  pub after : After (time_of net sheet words case) (depth_of net sheet words) (node_count sheet) old memo
  pub upto : ℕ
  pub walks : Walks net sheet starts n first i upto
  pub value : time ≡ values_over (sheet_graph net sheet) (sheet_await net sheet) (pick_of case) (duration_of words case) (time_of net sheet words case) (start_of case) n upto

pub goes-start : {net sheet words starts : List ℕ} {case : Case} {n : ℕ} {memo : List ℕ} {first time : ℕ}
    → Mapped net sheet starts → Passed net sheet words → Opened net sheet words case n memo
    → first ≡ n * transition_count net → time ≡ start_of case → Going net sheet words starts case n memo first memo time (get_or starts n 0)
goes-start {memo = memo} m p o f v = record {
  passed = p;
  opened = o;
  after = after_none _ _ _ memo o.keeps.told;
  upto = 0;
  walks = walks-start m o.node f;
  value = v ∙ sym (turn-start _ _ _ _ _ _ _);
}

module _ {net sheet words starts : List ℕ} {case : Case} {n : ℕ} {old : List ℕ} {first : ℕ} {memo : List ℕ} {time i : ℕ}
    (g : Going net sheet words starts case n old first memo time i) where
  pub goes-fewer : unvisited memo ≤ unvisited old
  goes-fewer = unvisited-after _ _ _ old memo g.after

  -- transitions without an arc change nothing
  skip : (t : ℕ) → g.upto ≤ t → ((v : ℕ) → g.upto ≤ v → v < t → (sheet_graph net sheet).arc n v ≡ none)
      → time ≡ values_over (sheet_graph net sheet) (sheet_await net sheet) (pick_of case) (duration_of words case) (time_of net sheet words case) (start_of case) n t
  skip t l h = passes
      (λ v. time ≡ values_over (sheet_graph net sheet) (sheet_await net sheet) (pick_of case) (duration_of words case) (time_of net sheet words case) (start_of case) n v)
      g.upto t l (λ v a b p. p ∙ sym (turn-skip _ _ _ _ _ _ n v (h v a b))) g.value

  pub goes_end : get_or starts (n + 1) 0 ≤ i → Worked net sheet words case n old memo time
  goes_end l = record {
    value = skip (transition_count net) g.walks.walked.few (λ v a b. none-behind g.walks l v a)
        ∙ turns-end g.walks.mapped g.passed case (start_of case) n g.opened.node g.opened.busy;
    after = g.after;
  }

  module _ (k : i < get_or starts (n + 1) 0) {t : ℕ} (e : t ≡ entry_key sheet i - first) {x : ℕ} (q : x ≡ entry_value sheet i) where
    pub enters : Entered net sheet words case x memo
    enters = record {
      node = target g.walks k e q;
      long = g.after.size ∙ g.opened.long;
      keeps = noted-lower _ _ _ _ _ memo (noted-after _ _ _ _ old memo g.opened.keeps g.after)
          (depth_falls (sheet_graph net sheet) (sheet_await net sheet) (whole g.walks.mapped) g.passed.ending (way net sheet words g.passed)
          n t x g.opened.node g.opened.busy (arc g.walks k e q));
    }

    module _ {ahead : ℕ} {new : List ℕ} (w : Worked net sheet words case x memo new ahead) {own : ℕ} (d : own ≡ duration_of words case t) where
      pub sum_fits : own + ahead ≤ 128000000
      sum_fits = sum-most g.passed case (omega (arith, within g.walks k e)) (target g.walks k e q) d w.value

      pub goes-arc : {next : ℕ} → next ≡ pick_of case time (own + ahead) → Going net sheet words starts case n old first new next (i + 1)
      goes-arc f =
          let v = w.value in
          let p = skip t (reaches g.walks k e) (none_between g.walks k e) in
          let z = turn-arc (sheet_graph net sheet) (sheet_await net sheet) (pick_of case) (duration_of words case) (time_of net sheet words case) (start_of case) n t x (arc g.walks k e q)
          (pick-start case _ (omega (arith, d, v, sum_fits))) in
          record {
            passed = g.passed;
            opened = g.opened;
            after = after-trans _ _ _ old memo new g.after w.after;
            upto = t + 1;
            walks = walks_more g.walks k e;
            value = f ∙ rw (d, v, p) (sym z);
          }

-- ---- a time is small

pub worked-fits : {net sheet words : List ℕ} (p : Passed net sheet words) {case : Case} {n : ℕ} {old new : List ℕ} {x : ℕ}
    → Worked net sheet words case n old new x → IsNode sheet n → x ≤ 127000000
worked-fits p {case} {n} w l = omega (arith, w.value, time-most p case n l)
