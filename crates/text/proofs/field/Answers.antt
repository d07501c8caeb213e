-- `text::field` meets its contract.
use Rattle.scan.proofs.Basics.{rules}
use Rattle.text.proofs.Put.{both-put}
use Rattle.text.proofs.field.Goals as goal

pub returns : goal.returns
returns c = search (both-put, rules)
