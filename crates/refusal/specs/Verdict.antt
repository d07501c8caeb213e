-- A verdict made from what a check finds, and one check after the other.
use Rattle.std.specs.Prelude.{Result, Err, Ok}
use Rattle.refusal.specs.Refusal.{Verdict}
use Rattle.std.proofs.Math.Option.{Option, none, some}
use Rattle.refusal.specs.declared.Refusal.{Refusal}

abbrev pub verdict_of : Option Refusal → Verdict
verdict_of none = Ok tt
verdict_of (some r) = Err r

-- the second check is asked only if the first refuses nothing: §7.54
abbrev pub and_then : Verdict → Verdict → Verdict
and_then (Ok tt) v = v
and_then (Err r) v = Err r

-- the verdict alone of an answer that tells more if nothing is refused
abbrev pub verdict_alone : {A : Type 0} → Result A Refusal → Verdict
verdict_alone (Ok a) = Ok tt
verdict_alone (Err r) = Err r
