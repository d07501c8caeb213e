-- `firmware::wulthrein_check` meets its contract.
use Rattle.scan.proofs.Basics.{rules}
use Rattle.firmware.proofs.Early.{done-small, done-enough}
use Rattle.firmware.proofs.wulthrein_check.Goals as goal

pub returns-then-reply-lt-REPLY_BYTES : goal.returns-then-reply-lt-REPLY_BYTES
returns-then-reply-lt-REPLY_BYTES c = rw c.number.ensures (done-small c.if-reply-lt-REPLY_BYTES.true)

pub returns : goal.returns
returns c = search (done-enough, rules)
