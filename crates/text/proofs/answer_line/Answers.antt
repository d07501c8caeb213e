-- `text::answer_line` meets its contract.
use Rattle.text.specs.Lines.{answer_line}
use Rattle.text.proofs.Put.{both-put}
use Rattle.text.proofs.answer_line.Goals as goal

pub returns : goal.returns
unfolding answer_line
returns c = both-put (rw (c.from.ensures, c.from-2.ensures) at c.answer-at.ensures) c.byte.ensures
