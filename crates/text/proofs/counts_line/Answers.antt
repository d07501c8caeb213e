-- `text::counts_line` meets its contract.
use Rattle.text.specs.Lines.{field, counts_line}
use Rattle.text.proofs.Put.{both-put}
use Rattle.text.proofs.counts_line.Goals as goal

pub returns : goal.returns
unfolding field counts_line
returns c =
    both-put (rw c.from.ensures at c.field-at.ensures) (both-put (rw c.from-2.ensures at c.field-at-2.ensures)
    (both-put (rw c.from-3.ensures at c.field-at-3.ensures) c.byte.ensures))
