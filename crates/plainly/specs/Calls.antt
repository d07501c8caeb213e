-- The slow engine as a call (§10.40): what it answers, in its own terms. The crate `demands` says that the schedule check answers the same.
use Rattle.judge.specs.Answer.{CheckAnswer}
use Rattle.refusal.specs.Refusal.{Verdict}
use Rattle.std.specs.Prelude.{ℕ, List, [], Err, Ok}
use Rattle.refusal.specs.Limits.{scratch_limit}
use Rattle.refusal.specs.Verdict.{verdict_of, and_then}
use Rattle.lending.specs.Call.{Core, CallDone}
use Rattle.sequential.specs.Petri.{petri_net}
use Rattle.sequential.specs.Words.{node_count, graph}
use Rattle.graph.specs.Readable.{words_reply}
use Rattle.judge.specs.declared.Counts.{Counts}
use Rattle.plainly.specs.Clauses.{clauses_fault, clauses_answer, arc_total, await_total}

-- 1 to 9 and 26, and then clause by clause
unfoldable pub slow_verdict : List ℕ → List ℕ → Verdict
slow_verdict net sheet = and_then (words_reply net sheet) (verdict_of (clauses_fault (petri_net net) (graph (petri_net net) sheet)))

unfoldable pub slow_counts : List ℕ → List ℕ → Counts
slow_counts net sheet = record { nodes = node_count sheet; arcs = arc_total (petri_net net) (graph (petri_net net) sheet); awaits = await_total (petri_net net) (graph (petri_net net) sheet) }

abbrev pub slow_core : List ℕ → List ℕ → Core CheckAnswer
slow_core net sheet = record { verdict = slow_verdict net sheet; accepted = Ok (slow_counts net sheet); refused = Err; results = [] }

-- what the code answers if there is enough scratch
abbrev pub after_words : Verdict → CheckAnswer → CheckAnswer
after_words (Ok tt) a = a
after_words (Err r) a = Err r

unfoldable pub slow_answer : List ℕ → List ℕ → CheckAnswer
slow_answer net sheet = after_words (words_reply net sheet) (clauses_answer (petri_net net) (graph (petri_net net) sheet))

abbrev pub SlowDone : List ℕ → List ℕ → List ℕ → CheckAnswer → List ℕ → Type 0
SlowDone net sheet scratch r scratch' = CallDone scratch_limit (slow_core net sheet) [] scratch r [] scratch'
