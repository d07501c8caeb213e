use Rattle.scan.proofs.Basics.{rules}
use Rattle.replay.proofs.Sides.{weighs-none, weighs-fit, weighs-more, weighs-all}
use Rattle.replay.proofs.tally.weigh.Goals as goal

pub loop-t-init : goal.loop-t-init
loop-t-init c = search (weighs-none, rules)

pub loop-t-preserved : goal.loop-t-preserved
loop-t-preserved c = weighs-more c.loop-t.invariant c.loop-t-test.true c.row_of-row.ensures c.add_row-next.ensures

pub returns : goal.returns
returns c = search (weighs-all, rules)

pub add_row-next-requires-clause-at_most : goal.add_row-next-requires-clause-at_most
add_row-next-requires-clause-at_most c = (weighs-fit c.loop-t.invariant c.loop-t-test.true).1
