-- `encoding::put` meets its contract.
use Rattle.scan.proofs.Basics.{arith}
use Rattle.encoding.proofs.Rows.{appended_one, appended-past}
use Rattle.encoding.proofs.put.Goals as goal

pub returns-then-at-out : goal.returns-then-at-out
returns-then-at-out c = appended_one _ _ _ (omega arith)

pub returns : goal.returns
returns c = appended-past _ _ _ (omega arith)
