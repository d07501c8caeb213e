use Rattle.scan.proofs.Basics.{arith, rules, below_more}
use Rattle.compose.proofs.Paths.{turn-passes, turn-fails}
use Rattle.compose.proofs.checks.sheets_told.Goals as goal

pub loop-i-init : goal.loop-i-init
loop-i-init c = (omega arith, λ j l. absurd (omega arith))

pub pick-sheet-requires : goal.pick-sheet-requires
pick-sheet-requires c = c.loop-i-test.true

pub returns-in-Err : goal.returns-in-Err
returns-in-Err c = turn-fails _ _ _ _ _ _ c.requires c.loop-i-test.true (search rules) c.task_verdict.ensures c.loop-i.invariant.1 c.in-Err.is

pub loop-i-preserved : goal.loop-i-preserved
loop-i-preserved c = (omega arith, below_more _ _ c.loop-i.invariant.1 (search (turn-passes, rules)))

pub returns : goal.returns
returns c = record { passes = λ e j k. c.loop-i.invariant.1 j (omega arith); fails = λ f e. cc }
