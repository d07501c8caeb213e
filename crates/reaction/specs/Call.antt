-- The call that reports reaction times (§10.46): what it makes of its words, its postcondition, and its answer as plain numbers.
use Rattle.std.specs.Prelude.{ℕ, Bool, List, [], ◌∷◌, length, Result, Err, Ok}
use Rattle.automaton.specs.Automaton.{Automaton}
use Rattle.refusal.specs.Limits.{scratch_limit}
use Rattle.refusal.specs.Refusal.{plain_refusal, Verdict}
use Rattle.refusal.specs.declared.Refusal.{Refusal}
use Rattle.refusal.specs.Verdict.{verdict_of, and_then}
use Rattle.lending.specs.Call.{Core, WordsDone, CallDone}
use Rattle.sequential.specs.Petri.{petri_net}
use Rattle.sequential.specs.Words.{graph}
use Rattle.sequential.specs.Tests.{is_await}
use Rattle.sequential.specs.Check.{schedule_reply}
use Rattle.reaction.specs.ToGo.{best, worst, best_reaction, worst_reaction}
use Rattle.reaction.specs.Words.{early, late, report}
use Rattle.reaction.specs.Tests.{reaction_fault}

-- the schedule's graph, and which of its nodes are await nodes (§5.4)
abbrev pub sheet_graph : List ℕ → List ℕ → Automaton
sheet_graph net sheet = graph (petri_net net) sheet

abbrev pub sheet_await : List ℕ → List ℕ → ℕ → Bool
sheet_await net sheet = is_await (petri_net net) (sheet_graph net sheet)

-- the best and the worst time of a node, and of an await node with a source: §10.47
module _ (net sheet durations : List ℕ) where
  abbrev pub best_time : ℕ → ℕ
  best_time = best (sheet_graph net sheet) (sheet_await net sheet) (early durations)

  abbrev pub worst_time : ℕ → ℕ
  worst_time = worst (sheet_graph net sheet) (sheet_await net sheet) (late durations)

  abbrev pub best_of_source : ℕ → ℕ → ℕ
  best_of_source = best_reaction (sheet_graph net sheet) (sheet_await net sheet) (early durations)

  abbrev pub worst_of_source : ℕ → ℕ → ℕ
  worst_of_source = worst_reaction (sheet_graph net sheet) (sheet_await net sheet) (late durations)

-- 1 to 17, with 26 and 27, then 32, then 33: §7.66
unfoldable pub reaction_verdict : List ℕ → List ℕ → List ℕ → Verdict
reaction_verdict net sheet durations = and_then (schedule_reply net sheet) (verdict_of (reaction_fault (petri_net net) sheet durations))

-- the report, with the best and the worst time of every await node with every source: §10.48
unfoldable pub report_words : List ℕ → List ℕ → List ℕ → List ℕ
report_words net sheet durations = report (sheet_graph net sheet) (sheet_await net sheet) (early durations) (late durations)

-- the length in words of the report, or a refusal
abbrev pub ReactionAnswer : Type 0
ReactionAnswer = Result ℕ Refusal

abbrev pub reaction_core : List ℕ → List ℕ → List ℕ → Core ReactionAnswer
reaction_core net sheet durations = record {
  verdict = reaction_verdict net sheet durations;
  accepted = Ok (length (report_words net sheet durations));
  refused = Err;
  results = report_words net sheet durations ∷ [];
}

-- the postcondition without scratch
abbrev pub ReactionWritten : List ℕ → List ℕ → List ℕ → List ℕ → ReactionAnswer → List ℕ → Type 0
ReactionWritten net sheet durations out r out' = WordsDone (reaction_core net sheet durations) (out ∷ []) r (out' ∷ [])

abbrev pub ReactionDone : List ℕ → List ℕ → List ℕ → List ℕ → List ℕ → ReactionAnswer → List ℕ → List ℕ → Type 0
ReactionDone net sheet durations out scratch r out' scratch' = CallDone scratch_limit (reaction_core net sheet durations) (out ∷ []) scratch r (out' ∷ []) scratch'

-- number, kind, position, length (§8.1), which is 0 if refused (§8.3)
abbrev pub plain_reaction : ReactionAnswer → List ℕ
plain_reaction (Ok length) = 0 ∷ 0 ∷ 0 ∷ length ∷ 0 ∷ 0 ∷ []
plain_reaction (Err r) = plain_refusal r
