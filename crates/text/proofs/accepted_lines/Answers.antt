-- `text::accepted_lines` meets its contract.
use Rattle.scan.proofs.Basics.{rules}
use Rattle.text.specs.Lines.{accepted_lines}
use Rattle.text.proofs.Put.{both-put}
use Rattle.text.proofs.accepted_lines.Goals as goal

pub returns : goal.returns
unfolding accepted_lines
returns c = search (both-put, rules)
