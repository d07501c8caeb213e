use Rattle.scan.proofs.Basics.{arith, rules, ◌≡◌}
use Rattle.scan.specs.Scan.{tabulate}
use Rattle.encoding.proofs.Rows.{appended-none, appended-length}
use Rattle.mend.proofs.Writes.{copied_more}
use Rattle.mend.proofs.writer.copy.Goals as goal

pub loop-i-init : goal.loop-i-init
unfolding tabulate
loop-i-init c = (omega arith, appended-none _ _)

pub loop-i-preserved : goal.loop-i-preserved
loop-i-preserved c = (omega arith, search (copied_more, rules))

pub shape_of-out : goal.shape_of-out
shape_of-out c = search (appended-length, rules)

pub returns : goal.returns
returns c =
    let w = c.loop-i in
    let e : w.i ≡ c.args.n = omega arith in
    rw e at w.invariant.1
