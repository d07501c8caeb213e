-- The numbers of reasons are those of the clauses, at most 33.
use Rattle.std.specs.Prelude.{◌≤◌}
use Rattle.std.proofs.Common.{arith}
use Rattle.refusal.specs.Refusal.{reason_number}
use Rattle.refusal.specs.declared.Reason.{Reason}

pub reason-few : (reason : Reason) → reason_number reason ≤ 33
reason-few reason = grind arith
