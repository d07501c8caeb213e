-- What is known before loops are looked for. No contract of a public function cites it.
use Rattle.refusal.specs.Refusal.{Verdict}
use Rattle.std.specs.Prelude.{List, ℕ}
use Rattle.refusal.specs.Verdict.{verdict_of, and_then}
use Rattle.net.specs.Net.{transition_count}
use Rattle.sequential.specs.Check.{schedule_reply}
use Rattle.reaction.specs.Tests.{durations_fault}

-- 1 to 17, 26 and 27, and 32
unfoldable pub checked_verdict : List ℕ → List ℕ → List ℕ → Verdict
checked_verdict net sheet words = and_then (schedule_reply net sheet) (verdict_of (durations_fault words (transition_count net)))
