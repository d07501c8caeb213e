-- `text::bound_line` meets its contract.
use Rattle.text.specs.Lines.{field, bound_line}
use Rattle.text.proofs.Put.{both-put}
use Rattle.text.proofs.bound_line.Goals as goal

pub returns : goal.returns
unfolding field bound_line
returns c = both-put c.field-at.ensures (both-put (rw c.from.ensures at c.field-at-2.ensures) c.byte.ensures)
