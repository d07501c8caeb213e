-- What the functions that write the report rely on, and its length. No contract of a public function cites it.
use Rattle.std.specs.Prelude.{ℕ, ◌≡◌, true, List, length}
use Rattle.reaction.specs.Words.{early, late, row_at}
use Rattle.reaction.specs.Call.{sheet_graph, sheet_await, report_words}
use Rattle.react.specs.declared.case.Case.TheVariants.{Best, Worst}
use Rattle.react.specs.Rows.{IsNode}
use Rattle.react.specs.Times.{TimesOf}

-- the length of the report, whatever the durations are
abbrev pub SizeTold : List ℕ → List ℕ → ℕ → Type 0
SizeTold net sheet r = (words : List ℕ) → r ≡ length (report_words net sheet words)

-- the pairs of node n
abbrev pub row_words : List ℕ → List ℕ → List ℕ → ℕ → List ℕ
row_words net sheet words = row_at (sheet_graph net sheet) (sheet_await net sheet) (early words) (late words)

-- an await node, and the times of all nodes
pub record Writable (net sheet words best worst : List ℕ) (n : ℕ) : Type 0 where
  pub best_told : TimesOf net sheet words Best best
  pub worst_told : TimesOf net sheet words Worst worst
  pub node : IsNode sheet n
  pub awaits : sheet_await net sheet n ≡ true
