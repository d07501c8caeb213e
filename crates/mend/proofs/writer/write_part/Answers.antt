use Rattle.scan.proofs.Basics.{arith, rules, ◌≡◌}
use Rattle.sequential.specs.Words.{node_count}
use Rattle.encoding.proofs.Rows.{appended-length}
use Rattle.mend.proofs.Climbing.{rows_none, rows_more}
use Rattle.mend.proofs.Writes.{part_none, part-more}
use Rattle.mend.proofs.writer.write_part.Goals as goal

pub loop-n-init : goal.loop-n-init
loop-n-init c = (search (rows_none, rules), part_none _ _ _ _)

pub loop-n-preserved : goal.loop-n-preserved
loop-n-preserved c = (search (rows_more, rules), search (part-more, rules))

pub shape_of-out : goal.shape_of-out
shape_of-out c = search (appended-length, rules)

pub returns : goal.returns
returns c =
    let (w, a) = c.loop-n.invariant in
    let e : c.loop-n.n ≡ node_count c.args.sheet.now = omega arith in
    rw e at a
