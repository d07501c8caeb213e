use Rattle.scan.proofs.Basics.{arith, ◌∙◌}
use Rattle.table.specs.Table.{value_at}
use Rattle.table.proofs.Walk.{walk-starts, walk-goes, walk_ends, walk-over}
use Rattle.table.proofs.Row.{value-row-unfit, value-row-fits}
use Rattle.table.proofs.value_row.Goals as goal

pub returns-then-words-offset : goal.returns-then-words-offset
returns-then-words-offset c = value-row-unfit _ _ _ _ _ (omega arith)

pub loop-i-init : goal.loop-i-init
loop-i-init c = (walk-starts _ _ _ _ _ _ _ c.lower_bound-i.ensures, omega arith)

pub returns-in_default : goal.returns-in_default
returns-in_default c =
    walk_ends _ _ _ _ _ _ _ _ c.loop-i.invariant.0 c.in_default.ensures ∙ value-row-fits _ _ _ _ _ c.loop-i.invariant.1

pub loop-i-preserved : goal.loop-i-preserved
unfolding value_at
loop-i-preserved c = (
  walk-goes _ _ _ _ _ _ _ _ _ c.loop-i.invariant.0 c.loop-i-test.true c.in-Some.ensures.1 c.in-Some.ensures.0,
  c.loop-i.invariant.1,
)

pub returns : goal.returns
returns c = walk-over _ _ _ _ _ _ _ _ c.loop-i.invariant.0 c.loop-i-test.false ∙ value-row-fits _ _ _ _ _ c.loop-i.invariant.1
