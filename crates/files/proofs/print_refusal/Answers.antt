-- `files::print_refusal` meets its contract.
use Rattle.files.specs.Printed.{refused_text}
use Rattle.files.proofs.print_refusal.Goals as goal

pub returns : goal.returns
unfolding refused_text
returns c = rw (← c.number.ensures, ← c.kind.ensures, ← c.index.ensures) c.answer_line.ensures
