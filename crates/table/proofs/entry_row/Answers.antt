use Rattle.scan.proofs.Basics.{arith, rules}
use Rattle.table.specs.Row.{entry_row}
use Rattle.table.proofs.Walk.{walk-starts, walk-goes, walk_ends, walk-over}
use Rattle.table.proofs.entry_row.Goals as goal

pub loop-i-init : goal.loop-i-init
loop-i-init c = walk-starts _ _ _ _ _ _ _ c.lower_bound-i.ensures

pub run_place-requires : goal.run_place-requires
run_place-requires c = omega (arith, c.loop-i.invariant.fits c.loop-i-test.true)

pub returns-in_default : goal.returns-in_default
unfolding entry_row
returns-in_default c = walk_ends _ _ _ _ _ _ _ _ c.loop-i.invariant c.in_default.ensures

pub loop-i-preserved : goal.loop-i-preserved
loop-i-preserved c = let e = c.in-Some.ensures in walk-goes _ _ _ _ _ _ _ _ _ c.loop-i.invariant c.loop-i-test.true e.1 e.0

pub returns : goal.returns
unfolding entry_row
returns c = search (walk-over, rules)
