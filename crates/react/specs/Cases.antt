-- The best case and the worst one. No contract of a public function cites it.
use Rattle.std.specs.Prelude.{ℕ, min, max, List}
use Rattle.reaction.specs.ToGo.{best, worst}
use Rattle.reaction.specs.Words.{early, late}
use Rattle.reaction.specs.Call.{sheet_graph, sheet_await}
use Rattle.react.specs.declared.case.Case.{Case}
use Rattle.react.specs.declared.case.Case.TheVariants.{Best, Worst}

unfoldable pub duration_of : List ℕ → Case → ℕ → ℕ
duration_of words Best = early words
duration_of words Worst = late words

unfoldable pub pick_of : Case → ℕ → ℕ → ℕ
pick_of Best = min
pick_of Worst = max

unfoldable pub start_of : Case → ℕ
start_of Best = 4294967295
start_of Worst = 0

-- the time of a node
unfoldable pub time_of : List ℕ → List ℕ → List ℕ → Case → ℕ → ℕ
time_of net sheet words Best = best (sheet_graph net sheet) (sheet_await net sheet) (early words)
time_of net sheet words Worst = worst (sheet_graph net sheet) (sheet_await net sheet) (late words)
