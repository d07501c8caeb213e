-- What is known after the checks, for the functions that come after them and for proofs. No promise cites it.
use Rattle.std.specs.Prelude.{ℕ, ◌<◌, ◌≡◌, List, Ok}
use Rattle.sequential.specs.Petri.{petri_net}
use Rattle.sequential.specs.Check.{schedule_reply}
use Rattle.reaction.specs.Loop.{NoLoop}
use Rattle.reaction.specs.Words.{ShapePasses, DurationPasses}
use Rattle.reaction.specs.Call.{sheet_graph, sheet_await}

-- 32 refuses nothing
pub record DurationsPass (durations : List ℕ) (transitions : ℕ) : Type 0 where
  pub shape : ShapePasses durations transitions
  pub each : (t : ℕ) → t < transitions → DurationPasses durations t

-- 1 to 17, 26, 27, 32 and 33 refuse nothing
pub record Passed (net sheet durations : List ℕ) : Type 0 where
  pub accepted : schedule_reply net sheet ≡ Ok tt
  pub durations_pass : DurationsPass durations (petri_net net).transitions
  pub ending : NoLoop (sheet_graph net sheet) (sheet_await net sheet)
