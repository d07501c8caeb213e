-- `encoding::arc_cell` meets its contract.
use Rattle.scan.proofs.Basics.{arith}
use Rattle.encoding.proofs.Kept.{cell-number, cell-past}
use Rattle.encoding.proofs.arc_cell.Goals as goal

pub returns-then-target-ge128 : goal.returns-then-target-ge128
returns-then-target-ge128 c = cell-past _ _ _ _ _ (omega arith) c.value-target.ensures (omega arith) c.arc_to.ensures

pub returns : goal.returns
returns c = cell-number _ _ _ _ _ (omega arith) c.value-target.ensures c.arc_to-2.ensures
