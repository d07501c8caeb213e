-- The recursion for the best and the worst time: what its table holds, and what it leaves. No contract of a public function cites it.
use Rattle.std.specs.Prelude.{ℕ, suc, ◌<◌, ◌≡◌, false, List, length, get_or}
use Rattle.refusal.specs.Limits.{most_nodes}
use Rattle.sequential.specs.Words.{node_count}
use Rattle.reaction.specs.ToGo.{depth}
use Rattle.reaction.specs.Memo.{Noted, After}
use Rattle.reaction.specs.Call.{sheet_graph, sheet_await}
use Rattle.react.specs.declared.case.Case.{Case}
use Rattle.react.specs.Cases.{time_of}

module _ (net sheet words : List ℕ) where
  abbrev pub depth_of : ℕ → ℕ
  depth_of = depth (sheet_graph net sheet) (sheet_await net sheet)

module _ (net sheet words : List ℕ) (case : Case) where
  -- the times in the table are right, and every node that is begun has at least this depth
  abbrev pub Keeps : ℕ → List ℕ → Type 0
  Keeps level memo = Noted (time_of net sheet words case) (depth_of net sheet words) (node_count sheet) level memo

  -- before the time of node n is asked for
  pub record Entered (n : ℕ) (memo : List ℕ) : Type 0 where
    pub node : n < node_count sheet
    pub long : length memo ≡ most_nodes
    pub keeps : Keeps (suc (depth_of net sheet words n)) memo

  -- after node n is begun
  pub record Opened (n : ℕ) (memo : List ℕ) : Type 0 where
    pub node : n < node_count sheet
    pub long : length memo ≡ most_nodes
    pub busy : sheet_await net sheet n ≡ false
    pub keeps : Keeps (depth_of net sheet words n) memo

  -- the answer for node n, and the table that is left
  pub record Worked (n : ℕ) (old new : List ℕ) (r : ℕ) : Type 0 where
    pub value : r ≡ time_of net sheet words case n
    pub after : After (time_of net sheet words case) (depth_of net sheet words) (node_count sheet) old new

  pub record TimesOf (times : List ℕ) : Type 0 where
    pub told : (n : ℕ) → n < node_count sheet → get_or times n 0 ≡ time_of net sheet words case n
