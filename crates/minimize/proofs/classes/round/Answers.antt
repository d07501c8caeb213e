use Rattle.scan.proofs.Basics.{◌≤◌, arith, length-set}
use Rattle.automaton.proofs.Leader.{leader-le}
use Rattle.minimize.proofs.Leaders.{leaders-more}
use Rattle.minimize.proofs.classes.round.Goals as goal

pub overflow_cast-next : goal.overflow_cast-next
overflow_cast-next c =
    let q : c.leader-found.result ≤ c.loop-n.n = rw c.leader-found.ensures (leader-le _ _) in
    omega (arith, q)

pub loop-n-preserved : goal.loop-n-preserved
loop-n-preserved c =
    let (few, long, is) = c.loop-n.invariant in
    (few, simp length-set long, leaders-more _ _ _ _ is (omega arith) c.leader-found.ensures)
