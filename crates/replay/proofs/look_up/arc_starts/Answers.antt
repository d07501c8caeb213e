use Rattle.scan.proofs.Basics.{◌<◌, arith, ◌∙◌, length, length-set}
use Rattle.scan.proofs.Tabulate.{stored_more}
use Rattle.graph.proofs.Bounds.{bound-low}
use Rattle.replay.proofs.LookUp.{first-low}
use Rattle.replay.proofs.look_up.arc_starts.Goals as goal

pub overflow_cast-keys : goal.overflow_cast-keys
overflow_cast-keys c =
    let r = c.requires.arcs_readable in let k = c.requires.first_keys in
    omega (arith, first-low r k c.loop-n.n (omega arith))

pub overflow_cast-starts : goal.overflow_cast-starts
overflow_cast-starts c =
    let z = bound-low c.requires.arcs_readable _ c.lower_bound-start.ensures in
    omega arith

pub loop-n-preserved : goal.loop-n-preserved
loop-n-preserved c =
    let d = c.loop-n in
    let (a, b, e, f) = d.invariant in
    let r = c.requires.arcs_readable in let k = c.requires.first_keys in
    let l : d.n < length d.starts = omega arith in
    (simp length-set a, omega arith, e, stored_more _ d.starts _ _ f l (c.lower_bound-start.ensures ∙ rw (k.key d.n (omega arith))))

pub returns : goal.returns
returns c = let (a, b, d, f) = c.loop-n.invariant in record { start = λ n l. f n (omega arith) }
