-- `compose::checks::wrong_number` meets its contract.
use Rattle.scan.proofs.Tests.{lt-ltb, le-ltb}
use Rattle.compose.proofs.checks.wrong_number.Goals as goal

pub returns-then-number-gt-SHEETS : goal.returns-then-number-gt-SHEETS
returns-then-number-gt-SHEETS c = rw (lt-ltb _ _ c.if-number-gt-SHEETS.true)

pub returns : goal.returns
returns c = rw (le-ltb _ _ c.if-number-gt-SHEETS.false)
