-- `text::buffer::byte` meets its contract.
use Rattle.text.proofs.Put.{byte_put, dropped}
use Rattle.text.proofs.buffer.byte.Goals as goal

pub returns-then-at-out : goal.returns-then-at-out
returns-then-at-out c = byte_put _ _ _ c.if-at-out.true

pub returns-else-at-out : goal.returns-else-at-out
returns-else-at-out c = dropped _ _ _ c.if-at-out.false
