-- What is promised of reaction times (request #112), for anything that meets the call's postcondition. proofs/Reaction has a term for the record.
use Rattle.refusal.specs.declared.Reason.TheVariants.{SmallOutput}
use Rattle.std.specs.Prelude.{ℕ, ◌*◌, ◌≤◌, ◌<◌, ◌≡◌, ◌↔◌, true, List, [], ◌∷◌, ◌++◌, length, take, drop}
use Rattle.scan.specs.Scan.{count}
use Rattle.refusal.specs.Limits.{scratch_limit}
use Rattle.refusal.specs.Checks.{once, AllPass}
use Rattle.net.specs.Checks.{IsNet}
use Rattle.sequential.specs.Petri.{petri_net, Source}
use Rattle.sequential.specs.Words.{node_count}
use Rattle.sequential.specs.Tests.{is_source}
use Rattle.sequential.specs.Schedule.{Await, IsSchedule}
use Rattle.sequential.specs.Checks.{WordsPass}
use Rattle.sequential.specs.Check.{await_count}
use Rattle.lending.specs.Demands.{number, own, EveryCall}
use Rattle.reaction.specs.Busy.{BusyRun, BusyLoop, Reaction}
use Rattle.reaction.specs.Extreme.{AtMost, AtLeast}
use Rattle.reaction.specs.Loop.{NoLoop}
use Rattle.reaction.specs.Meaning.{Solves}
use Rattle.reaction.specs.Words.{early, late}
use Rattle.reaction.specs.Checks.{duration_checks, reaction_checks}
use Rattle.reaction.specs.Call.{sheet_graph, sheet_await, best_time, worst_time, plain_reaction, ReactionDone, ReactionAnswer}
use Rattle.reaction.specs.Times.{NodeTimes, ReactionTimes, FewFirings, RunsAttain}
use Rattle.demands.specs.Terms.{said, all_checks, Accepted}
use Rattle.demands.specs.Demand1.{Unread}

-- two words for every await node with every source: §10.48
abbrev pub pair_words : List ℕ → List ℕ → ℕ
pair_words net sheet = 2 * (await_count (petri_net net) sheet * count (is_source (petri_net net)) (petri_net net).transitions)

-- all that the call checks
pub record Reportable (net sheet durations out scratch : List ℕ) : Type 0 where
  pub scratch_holds : scratch_limit ≤ length scratch
  pub net_passes : IsNet net
  pub words_pass : WordsPass (petri_net net) sheet
  pub schedule : IsSchedule (petri_net net) (said net sheet)
  pub durations_pass : AllPass (duration_checks durations (petri_net net).transitions)
  pub ends : NoLoop (sheet_graph net sheet) (sheet_await net sheet)
  pub out_holds : pair_words net sheet ≤ length out

-- a call that answered 0, whatever the buffers lent held before
pub record Reporting (net sheet durations : List ℕ) : Type 0 where
  pub out : List ℕ
  pub scratch : List ℕ
  pub answer : ReactionAnswer
  pub out' : List ℕ
  pub scratch' : List ℕ
  pub done : ReactionDone net sheet durations out scratch answer out' scratch'
  pub zero : number (plain_reaction answer) ≡ 0

-- the length that the call answered, and that many words of the buffer
abbrev pub report_size : {net sheet durations : List ℕ} → Reporting net sheet durations → ℕ
report_size c = own (plain_reaction c.answer) 0

abbrev pub reported_by : {net sheet durations : List ℕ} → Reporting net sheet durations → List ℕ
reported_by c = take (report_size c) c.out'

-- an await node, and a source, which it offers
pub record Stimulus (net sheet : List ℕ) (a t : ℕ) : Type 0 where
  pub node : a < node_count sheet
  pub awaits : Await (petri_net net) (said net sheet) a
  pub transition : t < (petri_net net).transitions
  pub source : Source (petri_net net) t

-- it does what every call does, by its checks: scratch, the net, the schedule, 32, 33, and room for the report
abbrev pub EveryReaction : List ℕ → List ℕ → List ℕ → List ℕ → Type 0
EveryReaction net sheet durations out =
    EveryCall scratch_limit plain_reaction (all_checks net sheet (reaction_checks (petri_net net) sheet durations ++ (once (pair_words net sheet ≤ length out) SmallOutput ∷ []))) out
    (ReactionDone net sheet durations out)

pub record ReactionDemand : Type 0 where
  pub every : (net sheet durations out : List ℕ) → EveryReaction net sheet durations out
  -- nothing depends on what the buffer and scratch held: §13.5
  pub unread : (net sheet durations : List ℕ) → Unread (ReactionDone net sheet durations)
  -- the answer is 0 exactly if all checks pass
  pub answers : (net sheet durations out s out' s' : List ℕ) (a : ReactionAnswer) → ReactionDone net sheet durations out s a out' s'
      → (number (plain_reaction a) ≡ 0) ↔ Reportable net sheet durations out s
  -- the test by which the times are worked out tells the await nodes: §5.4
  pub awaits : (net sheet : List ℕ) (n : ℕ) → (sheet_await net sheet n ≡ true) ↔ Await (petri_net net) (said net sheet) n
  -- best and worst of every node: they solve their equations, bound every run to the next await node, and are attained
  pub nodes : (net sheet durations : List ℕ) (c : Reporting net sheet durations) (n : ℕ) → n < node_count sheet → NodeTimes net sheet durations n
  -- no other values solve the equations
  pub best_alone : (net sheet durations : List ℕ) (c : Reporting net sheet durations) (v : ℕ → ℕ)
      → ((n : ℕ) → n < node_count sheet → Solves (sheet_graph net sheet) (sheet_await net sheet) (early durations) AtMost v n)
      → (n : ℕ) → n < node_count sheet → v n ≡ best_time net sheet durations n
  pub worst_alone : (net sheet durations : List ℕ) (c : Reporting net sheet durations) (v : ℕ → ℕ)
      → ((n : ℕ) → n < node_count sheet → Solves (sheet_graph net sheet) (sheet_await net sheet) (late durations) AtLeast v n)
      → (n : ℕ) → n < node_count sheet → v n ≡ worst_time net sheet durations n
  -- for every await node and source: the least and the greatest time of all reactions, and the two words that report them
  pub reactions : (net sheet durations : List ℕ) (c : Reporting net sheet durations) (a t : ℕ) → Stimulus net sheet a t → ReactionTimes net sheet durations (reported_by c) a t
  -- some runs from the root attain these times
  pub attained : (net sheet durations : List ℕ) (c : Reporting net sheet durations) (a t : ℕ) → Stimulus net sheet a t → RunsAttain net sheet durations a t
  -- after its source a reaction has fewer firings than there are nodes
  pub short : (net sheet durations : List ℕ) (c : Reporting net sheet durations) (a t : ℕ) (σ : List ℕ) (next : ℕ) → a < node_count sheet
      → Reaction (sheet_graph net sheet) (sheet_await net sheet) a t σ next → FewFirings net sheet σ
  -- from a node on a loop that meets no await node, runs to the next await node can be arbitrarily long
  pub endless : (net sheet : List ℕ) → Accepted net sheet → (n : ℕ) → n < node_count sheet → BusyLoop (sheet_graph net sheet) (sheet_await net sheet) n
      → (k : ℕ) → (σ : List ℕ) × (next : ℕ) × BusyRun (sheet_graph net sheet) (sheet_await net sheet) n σ next × (sheet_await net sheet next ≡ true) × (k ≤ length σ)
  -- the length, which is never above 8,192 words; the report lies whole in the buffer, and the words behind it are as they were: §9.4
  pub sized : (net sheet durations : List ℕ) (c : Reporting net sheet durations) → (report_size c ≡ pair_words net sheet) × (report_size c ≤ 8192)
  pub within : (net sheet durations : List ℕ) (c : Reporting net sheet durations)
      → (c.out' ≡ reported_by c ++ drop (report_size c) c.out) × (report_size c ≤ length c.out) × (length (reported_by c) ≡ report_size c)
