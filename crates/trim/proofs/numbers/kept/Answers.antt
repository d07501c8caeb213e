-- `trim::numbers::kept` meets its contract.
use Rattle.scan.proofs.Basics.{rules}
use Rattle.trim.proofs.Numbering.{new-nodes}
use Rattle.trim.proofs.numbers.kept.Goals as goal

pub returns : goal.returns
returns c = search (new-nodes, rules)
