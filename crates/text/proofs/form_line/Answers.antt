-- `text::form_line` meets its contract.
use Rattle.scan.proofs.Basics.{rules}
use Rattle.text.specs.Lines.{form_line}
use Rattle.text.proofs.Put.{both-put}
use Rattle.text.proofs.form_line.Goals as goal

pub returns : goal.returns
unfolding form_line
returns c = search (both-put, rules)
