-- `text::answer` meets its contract.
use Rattle.text.specs.Lines.{field, answer_text}
use Rattle.text.proofs.Put.{both-put}
use Rattle.text.proofs.answer.Goals as goal

pub returns : goal.returns
unfolding field answer_text
returns c = both-put c.field-at.ensures (both-put (rw c.kind_name.ensures at c.bytes-at.ensures) c.field.ensures)
