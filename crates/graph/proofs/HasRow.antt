-- When a node has rows, on any words: if the sizes are in range and it is a node. On readable words every node has.
use Rattle.std.specs.Prelude.{Ok}
use Rattle.scan.proofs.Basics.{ℕ, ◌≤◌, ◌<◌, ◌≡◌, sym, ap, ◌∙◌, Bool, true, not, ltb, leb, List}
use Rattle.scan.proofs.Tests.{ltb-true, lt-ltb, leb-true, le-leb, not-true, and_left, and_right}
use Rattle.scan.specs.Scan.{found}
use Rattle.scan.proofs.First.{found_none}
use Rattle.refusal.specs.Verdict.{verdict_of}
use Rattle.refusal.proofs.Verdicts.{answer-none}
use Rattle.net.specs.Net.{place_count, transition_count}
use Rattle.sequential.specs.Words.{node_count}
use Rattle.sequential.specs.Check.{shape_fault}
use Rattle.sequential.proofs.Words.{shape-out, shape-in}
use Rattle.graph.specs.Readable.{ArcsReadable}
use Rattle.graph.specs.Rows.{has_row, HasRow}

module _ (net sheet : List ℕ) (n : ℕ) where
  pub has_row_out : has_row net sheet n ≡ true → HasRow net sheet n
  unfolding has_row
  has_row_out h =
      let a = and_left (leb (place_count net) 32) _ h in
      let h1 = and_right (leb (place_count net) 32) _ h in
      let b = and_left (leb (transition_count net) 32) _ h1 in
      let h2 = and_right (leb (transition_count net) 32) _ h1 in
      let s = shape-out sheet (found_none (shape_fault sheet) (not-true _ (and_left (not (found (shape_fault sheet))) _ h2))) in
      record {
        few_places = leb-true _ _ a;
        few_transitions = leb-true _ _ b;
        few_nodes = s.few_nodes;
        few_entries = s.few_entries;
        long = s.whole;
        node = ltb-true _ _ (and_right (not (found (shape_fault sheet))) _ h2);
      }

  -- the code's test says so
  pub row-known : {b : Bool} → b ≡ has_row net sheet n → b ≡ true → HasRow net sheet n
  row-known e h = has_row_out (sym e ∙ h)

  pub row-by-node : place_count net ≤ 32 → transition_count net ≤ 32 → verdict_of (shape_fault sheet) ≡ Ok tt → has_row net sheet n ≡ ltb n (node_count sheet)
  unfolding has_row found
  row-by-node a b h = rw (le-leb (place_count net) 32 a, le-leb (transition_count net) 32 b, answer-none (shape_fault sheet) h)

  pub has-row : ArcsReadable net sheet → n < node_count sheet → has_row net sheet n ≡ true
  has-row r l =
      let s = r.sizes in
      row-by-node s.few_places s.few_transitions (ap verdict_of (shape-in sheet r.holds.shape)) ∙ lt-ltb n (node_count sheet) l
