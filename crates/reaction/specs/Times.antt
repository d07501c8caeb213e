-- What the report says about a schedule and durations that pass: times of nodes and of reactions, bounds that are attained (§10.47), and where each pair stands (§10.48).
use Rattle.std.specs.Prelude.{ℕ, ◌+◌, ◌*◌, ◌-◌, ◌≤◌, ◌≡◌, List, ◌∷◌, ◌++◌, length, get_or}
use Rattle.std.proofs.Math.Option.{some}
use Rattle.scan.specs.Scan.{count}
use Rattle.automaton.specs.Automaton.{follow}
use Rattle.sequential.specs.Petri.{petri_net}
use Rattle.sequential.specs.Words.{node_count}
use Rattle.sequential.specs.Tests.{is_source}
use Rattle.sequential.specs.Check.{await_count}
use Rattle.reaction.specs.Busy.{Reaction}
use Rattle.reaction.specs.Duration.{lasting}
use Rattle.reaction.specs.Extreme.{AtMost, AtLeast}
use Rattle.reaction.specs.Loop.{is_busy}
use Rattle.reaction.specs.Meaning.{Solves, ExtremeOfRuns, ExtremeOfReactions}
use Rattle.reaction.specs.Words.{early, late, place_of}
use Rattle.reaction.specs.Call.{sheet_graph, sheet_await, best_time, worst_time, best_of_source, worst_of_source}

-- ---- the times

module _ (net sheet durations : List ℕ) where
  -- the times of a node: both values solve their equations, bound every run to the next await node, and are attained
  pub record NodeTimes (n : ℕ) : Type 0 where
    pub best_solves : Solves (sheet_graph net sheet) (sheet_await net sheet) (early durations) AtMost (best_time net sheet durations) n
    pub worst_solves : Solves (sheet_graph net sheet) (sheet_await net sheet) (late durations) AtLeast (worst_time net sheet durations) n
    pub best_of_runs : ExtremeOfRuns (sheet_graph net sheet) (sheet_await net sheet) (early durations) AtMost n (best_time net sheet durations n)
    pub worst_of_runs : ExtremeOfRuns (sheet_graph net sheet) (sheet_await net sheet) (late durations) AtLeast n (worst_time net sheet durations n)
    pub ordered : best_time net sheet durations n ≤ worst_time net sheet durations n
    pub fits : worst_time net sheet durations n ≤ 127000000

  -- the times of an await node and a source: the least and the greatest time to the next await node, both attained, and where they are written
  pub record ReactionTimes (report : List ℕ) (a t : ℕ) : Type 0 where
    pub best_of_reactions : ExtremeOfReactions (sheet_graph net sheet) (sheet_await net sheet) (early durations) AtMost a t (best_of_source net sheet durations a t)
    pub worst_of_reactions : ExtremeOfReactions (sheet_graph net sheet) (sheet_await net sheet) (late durations) AtLeast a t (worst_of_source net sheet durations a t)
    pub ordered : best_of_source net sheet durations a t ≤ worst_of_source net sheet durations a t
    pub fits : worst_of_source net sheet durations a t ≤ 128000000
    pub best_written : get_or report
        (place_of (sheet_await net sheet) (is_source (petri_net net)) (petri_net net).transitions a t) 0
        ≡ best_of_source net sheet durations a t
    pub worst_written : get_or report
        (place_of (sheet_await net sheet) (is_source (petri_net net)) (petri_net net).transitions a t + 1) 0
        ≡ worst_of_source net sheet durations a t

-- as many pairs as await nodes times sources
pub record ReportLong (net sheet report : List ℕ) : Type 0 where
  pub pairs : length report
      ≡ 2 * (await_count (petri_net net) sheet * count (is_source (petri_net net)) (petri_net net).transitions)
  pub most : length report ≤ 8192

-- ---- how many firings

-- after the source each firing leaves another busy node, so there are at most as many firings as busy nodes, and at most V - 1
pub record FewFirings (net sheet : List ℕ) (σ : List ℕ) : Type 0 where
  pub busy_nodes : length σ ≤ count (is_busy (sheet_await net sheet)) (node_count sheet)
  pub short : length σ ≤ node_count sheet - 1

-- ---- runs from the root

-- some list fired from the root comes to a, fires t there and goes on to the next await node, and from a on it lasts x
pub record AttainedFromRoot (net sheet : List ℕ) (d : ℕ → ℕ) (a t x : ℕ) : Type 0 where
  pub before : List ℕ
  pub after : List ℕ
  pub next : ℕ
  pub comes : follow (sheet_graph net sheet) 0 before ≡ some a
  pub reaction : Reaction (sheet_graph net sheet) (sheet_await net sheet) a t after next
  pub lasts : lasting d (t ∷ after) ≡ x
  pub run : follow (sheet_graph net sheet) 0 (before ++ (t ∷ after)) ≡ some next

pub record RunsAttain (net sheet durations : List ℕ) (a t : ℕ) : Type 0 where
  pub best_run : AttainedFromRoot net sheet (early durations) a t (best_of_source net sheet durations a t)
  pub worst_run : AttainedFromRoot net sheet (late durations) a t (worst_of_source net sheet durations a t)
