use Rattle.scan.proofs.Basics.{◌<◌, arith, length, length-set}
use Rattle.scan.proofs.Tabulate.{stored_more}
use Rattle.replay.proofs.look_up.first_keys.Goals as goal

pub loop-n-preserved : goal.loop-n-preserved
loop-n-preserved c =
    let (a, b, d, f) = c.loop-n.invariant in
    let l : c.loop-n.n < length c.loop-n.keys = omega arith in
    (simp length-set a, omega arith, d, stored_more _ c.loop-n.keys _ _ f l c.arcs_start-first.ensures.0)

pub returns : goal.returns
returns c = let (a, b, d, f) = c.loop-n.invariant in record { key = λ n l. f n (omega arith) }
