use Rattle.scan.proofs.Basics.{arith, ◌≡◌, ◌∙◌, length-set}
use Rattle.scan.proofs.Tabulate.{stored_more}
use Rattle.minimize.specs.Agree.{first_entry}
use Rattle.minimize.proofs.NodeRows.{start-low}
use Rattle.minimize.proofs.classes.starts_of.Goals as goal

pub overflow_cast-starts : goal.overflow_cast-starts
unfolding first_entry
overflow_cast-starts c =
    let a = c.args in
    let w = c.loop-n in
    let e : c.lower_bound.result ≡ first_entry a.net.now a.sheet.now a.counts w.n = c.lower_bound.ensures ∙ rw c.first_key-key.ensures in
    omega (arith, e, start-low c.requires a.counts w.n)

pub loop-n-preserved : goal.loop-n-preserved
unfolding first_entry
loop-n-preserved c =
    let w = c.loop-n in
    let (long, is) = w.invariant in
    (simp length-set long, stored_more (first_entry _ _ _) w.starts w.n _ is (omega arith) (c.lower_bound.ensures ∙ rw c.first_key-key.ensures))
