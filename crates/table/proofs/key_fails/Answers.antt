-- `table::key_fails` meets its contract.
use Rattle.scan.proofs.Basics.{arith}
use Rattle.scan.proofs.Tests.{lt-ltb, le-ltb, le-leb, lt-leb}
use Rattle.table.specs.Keys.{key_fails}
use Rattle.table.proofs.key_fails.Goals as goal

pub returns-then-limit-key : goal.returns-then-limit-key
unfolding key_fails
returns-then-limit-key c = rw (← c.key_at-key.ensures, le-leb _ _ c.if-limit-key.true)

pub returns-then-i-gt0 : goal.returns-then-i-gt0
unfolding key_fails
returns-then-i-gt0 c = rw (← c.key_at-key.ensures, lt-leb _ _ c.if-limit-key.false, lt-ltb 0 c.args.i c.if-i-gt0.true, ← c.key_at.ensures)

pub returns-else-i-gt0 : goal.returns-else-i-gt0
unfolding key_fails
returns-else-i-gt0 c = rw (← c.key_at-key.ensures, lt-leb _ _ c.if-limit-key.false, le-ltb 0 c.args.i (omega arith))
