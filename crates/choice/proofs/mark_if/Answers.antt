-- `choice::mark_if` meets its contract.
use Rattle.scan.specs.Scan.{bit}
use Rattle.choice.proofs.mark_if.Goals as goal

pub returns-then-set : goal.returns-then-set
unfolding bit
returns-then-set c = rw c.if-set.true

pub returns : goal.returns
unfolding bit
returns c = rw c.if-set.false
