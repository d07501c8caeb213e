-- `lending::output_fault` meets its contract.
use Rattle.scan.proofs.Tests.{lt-ltb, le-ltb}
use Rattle.scan.specs.Scan.{when}
use Rattle.lending.specs.Call.{room_fault}
use Rattle.lending.proofs.output_fault.Goals as goal

pub returns-then-lent-needed : goal.returns-then-lent-needed
unfolding room_fault when
returns-then-lent-needed c = rw (lt-ltb _ _ c.if-lent-needed.true) c.refuse.ensures

pub returns : goal.returns
unfolding room_fault when
returns c = rw (le-ltb _ _ c.if-lent-needed.false)
