-- The calls on schedules: what each makes of its words, and its postcondition. What is true of every call is said once, in the crate `lending`.
use Rattle.schedule.specs.Plain.{FireAnswer, RunAnswer}
use Rattle.refusal.specs.Refusal.{Verdict}
use Rattle.std.specs.Prelude.{ℕ, ◌≡◌, List, [], ◌∷◌, length, Err, Ok}
use Rattle.refusal.specs.Limits.{scratch_limit}
use Rattle.refusal.specs.Verdict.{verdict_of, and_then}
use Rattle.net.specs.Check.{net_reply}
use Rattle.sequential.specs.Petri.{petri_net}
use Rattle.sequential.specs.Check.{schedule_reply}
use Rattle.sequential.specs.Bounds.{bounds}
use Rattle.judge.specs.Answer.{counts_of, CheckAnswer}
use Rattle.lending.specs.Call.{Core, WordsDone, CallDone}
use Rattle.schedule.specs.Firing.{fresh_walker, step_fault, follows, entry_fired, node_after, last_entry, run_fault, end_counts}
use Rattle.schedule.specs.declared.Walker.{Walker}

-- ---- the schedule check: §10.3

abbrev pub check_core : List ℕ → List ℕ → Core CheckAnswer
check_core net sheet = record { verdict = schedule_reply net sheet; accepted = Ok (counts_of net sheet); refused = Err; results = [] }

-- the postcondition under any limit of scratch
abbrev pub CheckWithinDone : ℕ → List ℕ → List ℕ → List ℕ → CheckAnswer → List ℕ → Type 0
CheckWithinDone limit net sheet scratch r scratch' = CallDone limit (check_core net sheet) [] scratch r [] scratch'

abbrev pub CheckDone : List ℕ → List ℕ → List ℕ → CheckAnswer → List ℕ → Type 0
CheckDone = CheckWithinDone scratch_limit

-- ---- place bounds: §10.4

abbrev pub bounds_core : List ℕ → List ℕ → Core Verdict
bounds_core net sheet = record { verdict = schedule_reply net sheet; accepted = Ok tt; refused = Err; results = bounds (petri_net net) sheet ∷ [] }

-- the postcondition without scratch
abbrev pub BoundsWritten : List ℕ → List ℕ → List ℕ → Verdict → List ℕ → Type 0
BoundsWritten net sheet out r out' = WordsDone (bounds_core net sheet) (out ∷ []) r (out' ∷ [])

abbrev pub BoundsWithinDone : ℕ → List ℕ → List ℕ → List ℕ → List ℕ → Verdict → List ℕ → List ℕ → Type 0
BoundsWithinDone limit net sheet out scratch r out' scratch' = CallDone limit (bounds_core net sheet) (out ∷ []) scratch r (out' ∷ []) scratch'

abbrev pub BoundsDone : List ℕ → List ℕ → List ℕ → List ℕ → Verdict → List ℕ → List ℕ → Type 0
BoundsDone = BoundsWithinDone scratch_limit

-- ---- making a walker: §10.6, without scratch (§9.1)

pub record FreshDone (net : List ℕ) (r : Verdict) (w : Walker) : Type 0 where
  pub reply : r ≡ net_reply net
  pub made : w ≡ fresh_walker r net

-- ---- a single firing: §10.7

abbrev pub fire_core : List ℕ → List ℕ → Walker → ℕ → Core (FireAnswer × Walker)
fire_core net sheet w t = record {
  verdict = and_then (schedule_reply net sheet) (verdict_of (step_fault (petri_net net) sheet w t));
  accepted = (Ok (record { entry = entry_fired (petri_net net) sheet w t }), follows (petri_net net) sheet w t);
  refused = λ r. (Err r, w);
  results = [];
}

-- the postcondition without scratch
abbrev pub StepDone : List ℕ → List ℕ → Walker → ℕ → FireAnswer → Walker → Type 0
StepDone net sheet w t r next = WordsDone (fire_core net sheet w t) [] (r, next) []

abbrev pub FireWithinDone : ℕ → List ℕ → List ℕ → List ℕ → Walker → ℕ → FireAnswer → Walker → List ℕ → Type 0
FireWithinDone limit net sheet scratch w t r next scratch' = CallDone limit (fire_core net sheet w t) [] scratch (r, next) [] scratch'

abbrev pub FireDone : List ℕ → List ℕ → List ℕ → Walker → ℕ → FireAnswer → Walker → List ℕ → Type 0
FireDone = FireWithinDone scratch_limit

-- ---- a run: §10.8

abbrev pub run_core : List ℕ → List ℕ → List ℕ → Core RunAnswer
run_core net sheet firings = record {
  verdict = and_then (schedule_reply net sheet) (verdict_of (run_fault (petri_net net) sheet firings));
  accepted = Ok (record { fired = length firings; node = node_after (petri_net net) sheet firings (length firings); entry = last_entry (petri_net net) sheet firings });
  refused = Err;
  results = end_counts net firings ∷ [];
}

-- the postcondition without scratch
abbrev pub RunWritten : List ℕ → List ℕ → List ℕ → List ℕ → RunAnswer → List ℕ → Type 0
RunWritten net sheet firings out r out' = WordsDone (run_core net sheet firings) (out ∷ []) r (out' ∷ [])

abbrev pub RunWithinDone : ℕ → List ℕ → List ℕ → List ℕ → List ℕ → List ℕ → RunAnswer → List ℕ → List ℕ → Type 0
RunWithinDone limit net sheet firings out scratch r out' scratch' = CallDone limit (run_core net sheet firings) (out ∷ []) scratch r (out' ∷ []) scratch'

abbrev pub RunDone : List ℕ → List ℕ → List ℕ → List ℕ → List ℕ → RunAnswer → List ℕ → List ℕ → Type 0
RunDone = RunWithinDone scratch_limit
