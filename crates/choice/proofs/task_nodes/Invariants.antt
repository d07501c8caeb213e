-- `choice::task_nodes` meets its contract: nothing is found at the nodes before the counter, and their marks are right.
use Rattle.scan.proofs.Basics.{◌≤◌}
use Rattle.choice.specs.Passing.{Passing}
use Rattle.choice.proofs.task_nodes.Given as goal

abbrev pub invariant-loop-n : goal.invariant-loop-n
invariant-loop-n l = (l.n ≤ l.nodes) × Passing l.net l.s l.sheet l.leaders l.source l.transitions l.nodes l.awaits l.n
