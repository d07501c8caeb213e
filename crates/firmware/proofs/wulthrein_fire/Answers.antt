-- `firmware::wulthrein_fire` meets its contract.
use Rattle.scan.proofs.Basics.{arith}
use Rattle.refusal.proofs.Reasons.{reason-few}
use Rattle.firmware.proofs.Firing.{number-fired, number-refused}
use Rattle.firmware.proofs.wulthrein_fire.Goals as goal

pub returns-in-Ok : goal.returns-in-Ok
returns-in-Ok c = record { returned = number-fired _ _ _ _ _ _ c.fire-answer.ensures _ c.in-Ok.is; scratch_after = c.clear.ensures }

pub overflow_add-result : goal.overflow_add-result
overflow_add-result c = omega (arith, c.number.ensures, reason-few c.in-Err.r.reason)

pub returns-in-Err : goal.returns-in-Err
returns-in-Err c = record { returned = rw c.number.ensures (number-refused _ _ _ _ _ _ c.fire-answer.ensures _ c.in-Err.is); scratch_after = c.clear.ensures }
