-- `text::buffer::bytes` meets its contract.
use Rattle.scan.proofs.Basics.{arith}
use Rattle.text.proofs.Put.{dropped, copied}
use Rattle.text.proofs.buffer.bytes.Goals as goal

pub returns-then-out-at : goal.returns-then-out-at
returns-then-out-at c = dropped _ _ _ c.if-out-at.true

pub returns : goal.returns
returns c = rw c.copy_from_slice.ensures.after (copied c.args.out.now c.args.at c.args.bytes.now c.min.result _ (omega arith) c.min.ensures (omega arith))
