use Rattle.scan.proofs.Basics.{◌+◌, arith, rules, ◌≡◌, refl, length}
use Rattle.sequential.specs.Words.{node_count}
use Rattle.encoding.specs.declared.Section.TheVariants.{CountKeys}
use Rattle.mend.specs.Writing.{part_to}
use Rattle.mend.proofs.Climbing.{rows_none, rows_more}
use Rattle.mend.proofs.Writes.{part_count, part-few}
use Rattle.mend.proofs.writer.counted.Goals as goal

pub loop-n-init : goal.loop-n-init
unfolding part_to
loop-n-init c = (search (rows_none, rules), refl)

pub loop-n-preserved : goal.loop-n-preserved
loop-n-preserved c = search (rows_more, part_count, rules)

pub returns : goal.returns
returns c =
    let (w, e) = c.loop-n.invariant in
    let q : c.loop-n.n ≡ node_count c.args.sheet.now = omega arith in
    rw q at e

pub overflow_add-entries : goal.overflow_add-entries
overflow_add-entries c =
    let e : c.loop-n.entries + c.filled-entries.result ≡ length (part_to c.args.net.now c.args.sheet.now c.args.part CountKeys (c.loop-n.n + 1)) =
    search (rows_more, part_count, rules) in
    omega (arith, part-few _ _ _ CountKeys _ e)
