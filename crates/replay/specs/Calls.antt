-- The replay of a log (§10.11): what it makes of its words, and its postcondition. What is true of every call is said in the crate `lending`.
use Rattle.replay.specs.Plain.{ReplayAnswer}
use Rattle.refusal.specs.Index.{Index}
use Rattle.refusal.specs.Refusal.{Verdict}
use Rattle.std.specs.Prelude.{ℕ, ◌≡◌, List, [], ◌∷◌, Result, Err, Ok}
use Rattle.scan.specs.Scan.{first, sum, tabulate}
use Rattle.refusal.specs.Limits.{scratch_limit}
use Rattle.refusal.specs.Verdict.{verdict_of, verdict_alone, and_then}
use Rattle.refusal.specs.declared.Refusal.{Refusal}
use Rattle.sequential.specs.Petri.{PetriNet, petri_net}
use Rattle.sequential.specs.Check.{schedule_reply}
use Rattle.lending.specs.Call.{Core, WordsDone, CallDone}
use Rattle.schedule.specs.Firing.{last_entry}
use Rattle.replay.specs.Log.{firing_count, firings, moved}
use Rattle.replay.specs.Tests.{firing_fault, replay_fault}
use Rattle.replay.specs.declared.Totals.{Totals}

-- 1 to 17, with 26 and 27, and then the log: §7.54
unfoldable pub replay_verdict : List ℕ → List ℕ → List ℕ → Verdict
replay_verdict net sheet log = and_then (schedule_reply net sheet) (verdict_of (replay_fault (petri_net net) sheet log))

-- what the log takes and puts over all places
unfoldable pub totals_of : PetriNet → List ℕ → Totals
totals_of N log = record { taken = sum (moved N.taken log) N.places; put = sum (moved N.put log) N.places }

-- what the log takes at each place, and what it puts
unfoldable pub taken_row : PetriNet → List ℕ → List ℕ
taken_row N log = tabulate (moved N.taken log) N.places

unfoldable pub put_row : PetriNet → List ℕ → List ℕ
put_row N log = tabulate (moved N.put log) N.places

-- the entry is that of the run of the log's transitions: §10.13
abbrev pub replay_core : List ℕ → List ℕ → List ℕ → Core ReplayAnswer
replay_core net sheet log = record {
  verdict = replay_verdict net sheet log;
  accepted = Ok (record { totals = totals_of (petri_net net) log; entry = last_entry (petri_net net) sheet (firings log) });
  refused = Err;
  results = taken_row (petri_net net) log ∷ put_row (petri_net net) log ∷ [];
}

-- the postcondition without scratch
abbrev pub ReplayWritten : List ℕ → List ℕ → List ℕ → List ℕ → List ℕ → ReplayAnswer → List ℕ → List ℕ → Type 0
ReplayWritten net sheet log taken put r taken' put' = WordsDone (replay_core net sheet log) (taken ∷ put ∷ []) r (taken' ∷ put' ∷ [])

-- the postcondition under any limit of scratch
abbrev pub ReplayWithinDone : ℕ → List ℕ → List ℕ → List ℕ → List ℕ → List ℕ → List ℕ → ReplayAnswer → List ℕ → List ℕ → List ℕ → Type 0
ReplayWithinDone limit net sheet log taken put scratch r taken' put' scratch' =
    CallDone limit (replay_core net sheet log) (taken ∷ put ∷ []) scratch r (taken' ∷ put' ∷ []) scratch'

abbrev pub ReplayDone : List ℕ → List ℕ → List ℕ → List ℕ → List ℕ → List ℕ → ReplayAnswer → List ℕ → List ℕ → List ℕ → Type 0
ReplayDone = ReplayWithinDone scratch_limit

-- ---- what following the firings finds, and what all checks find: a fault, or, if there is none, the entry of the last arc

pub record LogFollowed (N : PetriNet) (sheet log : List ℕ) (answer : Result Index Refusal) : Type 0 where
  pub reply : verdict_alone answer ≡ verdict_of (first (firing_fault N sheet log) (firing_count log))
  pub entry : (e : Index) → answer ≡ Ok e → e ≡ last_entry N sheet (firings log)

pub record LogChecked (net sheet log : List ℕ) (answer : Result Index Refusal) : Type 0 where
  pub reply : verdict_alone answer ≡ replay_verdict net sheet log
  pub entry : (e : Index) → answer ≡ Ok e → e ≡ last_entry (petri_net net) sheet (firings log)
