-- The report as it is written: the pairs of an await node along its arcs, and the rows of all await nodes.
use Rattle.scan.proofs.Basics.{ℕ, ◌+◌, ◌*◌, ◌-◌, ◌≤◌, ◌<◌, arith, ◌≡◌, refl, ◌∙◌, true, false, none, List, [], ◌∷◌, get_or}
use Rattle.scan.specs.Placed.{placed}
use Rattle.net.specs.Net.{transition_count}
use Rattle.sequential.specs.Words.{node_count, entry_key, entry_value}
use Rattle.encoding.specs.Rows.{Appended}
use Rattle.reaction.specs.Words.{strung, row_at, report}
use Rattle.reaction.specs.Call.{sheet_graph, sheet_await, report_words}
use Rattle.reaction.specs.Known.{Passed}
use Rattle.react.specs.declared.case.Case.TheVariants.{Best, Worst}
use Rattle.react.specs.Rows.{IsNode, Mapped}
use Rattle.react.specs.Cases.{duration_of, time_of}
use Rattle.react.specs.Times.{TimesOf}
use Rattle.react.specs.Report.{row_words, Writable}
use Rattle.react.proofs.ArcRows.{few_nodes}
use Rattle.react.proofs.Recursion.{sum-most}
use Rattle.react.proofs.RowPairs.{strung-none, strung-hit, strung-miss, pairs, skip, row-busy, pair-some, rows_of}
use Rattle.react.proofs.RowWalks.{Walks, walks-start, none-behind, within, reaches, none_between, walks_more, arc, target}

-- ---- one row as it is written: the arcs before entry i

pub record RowWriting (net sheet words starts best worst : List ℕ) (n : ℕ) (out₀ : List ℕ) (at first : ℕ) (out : List ℕ) (next i : ℕ) : Type 0 where
  pub passed : Passed net sheet words
  pub writable : Writable net sheet words best worst n
  pub upto : ℕ
  pub walks : Walks net sheet starts n first i upto
  pub written : Appended out₀ at (strung (pairs net sheet words n) upto) next out

pub row-start : {net sheet words starts best worst : List ℕ} {n : ℕ} {out : List ℕ} {at first : ℕ} → Mapped net sheet starts
    → Passed net sheet words → Writable net sheet words best worst n
    → first ≡ n * transition_count net → RowWriting net sheet words starts best worst n out at first out at (get_or starts n 0)
row-start m p v f = record {
  passed = p;
  writable = v;
  upto = 0;
  walks = walks-start m v.node f;
  written = strung-none _ _ _;
}

module _ {net sheet words starts best worst : List ℕ} {n : ℕ} {out₀ : List ℕ} {at first : ℕ} {out : List ℕ} {next i : ℕ}
    (g : RowWriting net sheet words starts best worst n out₀ at first out next i) where
  abbrev v : Writable net sheet words best worst n
  v = g.writable

  passed_over : (t : ℕ) → g.upto ≤ t → ((u : ℕ) → g.upto ≤ u → u < t → (sheet_graph net sheet).arc n u ≡ none) → Appended out₀ at (strung (pairs net sheet words n) t) next out
  passed_over t l h = rw (skip net sheet words n g.upto t l h) g.written

  pub row-end : get_or starts (n + 1) 0 ≤ i → Appended out₀ at (row_words net sheet words n) next out
  unfolding row_at
  row-end l = passed_over (transition_count net) g.walks.walked.few (λ u a b. none-behind g.walks l u a)

  module _ (k : i < get_or starts (n + 1) 0) {t : ℕ} (e : t ≡ entry_key sheet i - first) {x : ℕ} (q : x ≡ entry_value sheet i) where
    is_node : IsNode sheet x
    is_node = target g.walks k e q

    few : t < transition_count net
    few = within g.walks k e

    pub row_low : x < 128
    row_low = omega (arith, is_node, few_nodes g.walks.mapped)

    module _ {own : ℕ} where
      pub early_fits : own ≡ duration_of words Best t → own + get_or best x 0 ≤ 128000000
      early_fits d = sum-most g.passed Best few is_node d (v.best_told.told x is_node)

      pub late_fits : own ≡ duration_of words Worst t → own + get_or worst x 0 ≤ 128000000
      late_fits d = sum-most g.passed Worst few is_node d (v.worst_told.told x is_node)

    pub row_more : {a b : ℕ} → a ≡ duration_of words Best t → b ≡ duration_of words Worst t → {r : ℕ} {out₂ : List ℕ}
        → Appended out next ((a + get_or best x 0) ∷ (b + get_or worst x 0) ∷ []) r out₂ → RowWriting net sheet words starts best worst n out₀ at first out₂ r (i + 1)
    unfolding duration_of time_of
    row_more d f h =
        let p = passed_over t (reaches g.walks k e) (none_between g.walks k e) in
        record {
          passed = g.passed;
          writable = v;
          upto = t + 1;
          walks = walks_more g.walks k e;
          written = strung-hit (pairs net sheet words n) t p (pair-some net sheet words n v.awaits t x (arc g.walks k e q))
              (rw (← d, ← f, ← v.best_told.told x is_node, ← v.worst_told.told x is_node) h);
        }

-- ---- all rows: the nodes below n

pub record Writing (net sheet words starts out₀ best worst : List ℕ) (nodes : ℕ) (out : List ℕ) (next n : ℕ) : Type 0 where
  pub mapped : Mapped net sheet starts
  pub passed : Passed net sheet words
  pub best_told : TimesOf net sheet words Best best
  pub worst_told : TimesOf net sheet words Worst worst
  pub nodes_are : nodes ≡ node_count sheet
  pub bound : n ≤ nodes
  pub written : Appended out₀ 0 (rows_of net sheet words n) next out

pub write-start : {net sheet words starts out best worst : List ℕ} {nodes : ℕ} → Mapped net sheet starts → Passed net sheet words → nodes ≡ node_count sheet
    → TimesOf net sheet words Best best → TimesOf net sheet words Worst worst
    → Writing net sheet words starts out best worst nodes out 0 0
write-start m p s b w = record { mapped = m; passed = p; best_told = b; worst_told = w; nodes_are = s; bound = omega arith; written = strung-none _ _ 0 }

module _ {net sheet words starts out₀ best worst : List ℕ} {nodes : ℕ} {out : List ℕ} {next n : ℕ}
    (g : Writing net sheet words starts out₀ best worst nodes out next n) where
  pub all-written : nodes ≤ n → out ≡ placed out₀ 0 (report_words net sheet words)
  unfolding report_words report
  all-written l = let q : n ≡ node_count sheet = omega (arith, g.nodes_are, g.bound) in g.written.held ∙ rw q

  module _ (k : n < nodes) where
    pub write-node : IsNode sheet n
    write-node = omega (arith, g.nodes_are)

    pub writable : sheet_await net sheet n ≡ true → Writable net sheet words best worst n
    writable h = record {
      best_told = g.best_told;
      worst_told = g.worst_told;
      node = write-node;
      awaits = h;
    }

    -- with the row of an await node, or nothing
    write-next : {r : ℕ} {out₂ : List ℕ} → Appended out₀ 0 (rows_of net sheet words (n + 1)) r out₂ → Writing net sheet words starts out₀ best worst nodes out₂ r (n + 1)
    write-next a = record { mapped = g.mapped; passed = g.passed; best_told = g.best_told; worst_told = g.worst_told; nodes_are = g.nodes_are; bound = omega arith; written = a }

    pub writes-row : {r : ℕ} {out₂ : List ℕ} → Appended out next (row_words net sheet words n) r out₂ → Writing net sheet words starts out₀ best worst nodes out₂ r (n + 1)
    writes-row a = write-next (strung-hit _ n g.written refl a)

    pub skips-row : sheet_await net sheet n ≡ false → Writing net sheet words starts out₀ best worst nodes out next (n + 1)
    skips-row h = write-next (rw (strung-miss _ n (row-busy net sheet words n h)) g.written)
