-- `minimize::classes::rows_agree` meets its contract: the keys before the counter agree.
use Rattle.minimize.proofs.Agree.{Walk}
use Rattle.minimize.proofs.classes.rows_agree.Given as goal

abbrev pub invariant-loop-t : goal.invariant-loop-t
invariant-loop-t l = Walk l.sheet l.classes l.counts l.width l.a l.b l.i l.j l.t l.x l.y
