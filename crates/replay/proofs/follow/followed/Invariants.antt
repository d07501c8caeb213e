-- `replay::follow::followed` meets its contract: the firings before the counter pass, and lead to the node, where the next arc can be looked up.
use Rattle.replay.specs.LookUp.{LooksUp, Ranks}
use Rattle.replay.proofs.Following.{Along}
use Rattle.replay.proofs.follow.followed.Given as goal

abbrev pub invariant-loop-i : goal.invariant-loop-i
invariant-loop-i l = Along l.net l.sheet l.log l.n l.node l.entry l.i × LooksUp l.net l.sheet l.keys l.starts l.transitions l.node × Ranks l.ranks
