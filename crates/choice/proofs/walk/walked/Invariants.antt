-- `choice::walk::walked` meets its contract: the walk stands before the node of the counter.
use Rattle.choice.proofs.Passed.{Going}
use Rattle.choice.proofs.walk.walked.Given as goal

abbrev pub invariant-loop-n : goal.invariant-loop-n
invariant-loop-n l = Going l.net l.sheet l.leaders l.source l.transitions l.nodes l.awaits l.n l.first l.start
