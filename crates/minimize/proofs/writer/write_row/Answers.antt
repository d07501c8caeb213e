use Rattle.scan.proofs.Basics.{arith, rules}
use Rattle.encoding.specs.Encoding.{gather}
use Rattle.encoding.proofs.Rows.{appended-none}
use Rattle.minimize.proofs.NewRows.{row-keyed, running, running-worded, running_more, running-all}
use Rattle.minimize.proofs.writer.write_row.Goals as goal

pub run_of-run-requires : goal.run_of-run-requires
run_of-run-requires c =
    let h = c.requires in
    rw (c.row_width.ensures, c.first_key-old.ensures) (row-keyed h.readable _ h.old)

pub loop-k-init : goal.loop-k-init
unfolding gather
loop-k-init c = (search (running, rules), appended-none _ _)

pub overflow_add-run : goal.overflow_add-run
overflow_add-run c = omega (arith, (running-worded c.loop-k.invariant.0 c.loop-k-test.true).within)

pub entry_word-word-requires : goal.entry_word-word-requires
entry_word-word-requires c = search (running-worded, rules)

pub loop-k-preserved : goal.loop-k-preserved
loop-k-preserved c = search (running_more, rules)

pub returns : goal.returns
returns c = let (r, a) = c.loop-k.invariant in running-all r (omega arith) a
