-- The walk along the arcs of the nodes: from one row to the next, and what it has passed.
use Rattle.scan.proofs.Basics.{ℕ, ◌+◌, ◌*◌, ◌≤◌, ◌<◌, arith, ◌≡◌, refl, sym, ◌∙◌, true, not, leb, eqb, List, set, replicate}
use Prim.Native.Nat.{min}
use native.Mathlib.Nat.{mul-le-mul}
use Rattle.scan.specs.Scan.{found, bit}
use Rattle.scan.proofs.Tests.{lt-ltb, by_less, and_left, and_right, and_both}
use Rattle.net.specs.Net.{place_count, transition_count}
use Rattle.sequential.specs.Words.{node_count, entry_count}
use Rattle.sequential.specs.Check.{shape_fault}
use Rattle.sequential.specs.Known.{ShapePasses}
use Rattle.table.specs.Table.{Rising}
use Rattle.table.specs.Bisection.{lower_bound}
use Rattle.table.proofs.Bisection.{lower-bound}
use Rattle.graph.specs.Rows.{arcs_start, has_row}
use Rattle.graph.proofs.Starts.{arcs-start-is}
use Rattle.graph.proofs.HasRow.{has_row_out}
use Rattle.choice.specs.Whole.{RowAt, FirstArc, WholeRow, Offering}
use Rattle.choice.specs.Passing.{Walked}
use Rattle.choice.proofs.Whole.{few_transitions, offers-whole}
use Rattle.choice.proofs.Answer.{none_passed, row-tells, passes_at}

module _ (net sheet : List ℕ) (h : has_row net sheet 0 ≡ true) where
  pub shape : ShapePasses sheet
  shape = let r = has_row_out net sheet 0 h in record { some_node = r.node; few_nodes = r.few_nodes; few_entries = r.few_entries; whole = r.long }

  -- if the root has a row, every node has
  node_row : (n : ℕ) → n < node_count sheet → has_row net sheet n ≡ true
  unfolding has_row
  node_row n l =
      let h1 = and_right (leb (place_count net) 32) _ h in
      let h2 = and_right (leb (transition_count net) 32) _ h1 in
      and_both _ _ (and_left (leb (place_count net) 32) _ h) (and_both _ _ (and_left (leb (transition_count net) 32) _ h1)
      (and_both _ _ (and_left (not (found (shape_fault sheet))) _ h2) (lt-ltb n (node_count sheet) l)))

  -- the root's row is the first
  pub root-row : Rising sheet 2 (entry_count sheet) → RowAt sheet 0 0
  root-row up =
      let w = shape.whole in
      let b = lower-bound sheet 2 (entry_count sheet) 0 up (omega arith) in
      record {
        whole = w;
        few = shape.few_entries;
        up = up;
        low = omega arith;
        start_is = by_less 0 (lower_bound sheet 2 (entry_count sheet) 0) (λ l. absurd (omega (arith, b.below 0 l))) (λ l. omega arith);
      }

-- the walk stands before node n, whose row begins at the key `first` and the entry `start`
pub record Going (net sheet leaders : List ℕ) (source transitions nodes : ℕ) (awaits : List ℕ) (n first start : ℕ) : Type 0 where
  pub has : has_row net sheet 0 ≡ true
  pub offering : Offering net leaders transitions
  pub nodes_are : nodes ≡ min (node_count sheet) 128
  pub first-is : first ≡ n * transitions
  pub row : RowAt sheet first start
  pub walked : Walked net sheet leaders source transitions nodes awaits n

pub sets-out : {net sheet leaders : List ℕ} {source transitions nodes : ℕ} → Offering net leaders transitions → nodes ≡ min (node_count sheet) 128
    → (has_row net sheet 0 ≡ true) × RowAt sheet 0 0 → Going net sheet leaders source transitions nodes (replicate 128 0) 0 0 0
sets-out o e (h, r) = record { has = h; offering = o; nodes_are = e; first-is = omega arith; row = r; walked = none_passed }

-- one node more: its row is one whole choice set
module _ {net sheet leaders awaits : List ℕ} {source transitions nodes n first start : ℕ} (g : Going net sheet leaders source transitions nodes awaits n first start)
    (l : n < nodes) {c next : ℕ} (k : c < transitions) (w : WholeRow sheet leaders transitions first c next) where
  next_row : RowAt sheet (first + transitions) next
  next_row =
      let r = g.row in
      let e = g.first-is in
      let m : n + 1 ≤ 128 = omega (arith, g.nodes_are) in
      record { whole = r.whole; few = r.few; up = r.up; low = omega (arith, mul-le-mul m (few_transitions g.offering)); start_is = w.next_is }

  pub goes_on : {v : ℕ} → FirstArc sheet leaders first start c → v ≡ bit (eqb c source) → Going net sheet leaders source transitions nodes (set awaits n v) (n + 1) (first + transitions) next
  goes_on a e =
      let h = g.has in
      let o = g.offering in
      let m = g.nodes_are in
      let t = (has_row_out net sheet 0 h).few_transitions in
      let z : transitions ≡ transition_count net = omega (arith, o.all) in
      let q : first ≡ arcs_start net n = g.first-is ∙ rw z (sym (arcs-start-is net n (omega arith) (omega arith) t)) in
      let f = g.first-is in
      record {
        has = h;
        offering = o;
        nodes_are = m;
        first-is = omega arith;
        row = next_row;
        walked = record {
          within = omega arith;
          passing = λ s b. passes_at (g.walked.passing s b) _ _ l
              (row-tells b n _ _ refl (offers-whole o sheet n (node_row net sheet h n (omega arith)) _ k a.own (rw (← q) w.whole))) e;
        };
      }
