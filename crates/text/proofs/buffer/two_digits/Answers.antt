-- `text::buffer::two_digits` meets its contract.
use Rattle.text.proofs.Put.{both-put}
use Rattle.text.proofs.buffer.two_digits.Goals as goal

pub returns : goal.returns
returns c = both-put c.byte-next.ensures c.byte.ensures
