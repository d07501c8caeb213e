-- `lending::scratch_fault` meets its contract.
use Rattle.scan.proofs.Tests.{lt-ltb, le-ltb}
use Rattle.scan.specs.Scan.{when}
use Rattle.lending.specs.Call.{scratch_fault}
use Rattle.lending.proofs.scratch_fault.Goals as goal

pub returns-then-lent-limit : goal.returns-then-lent-limit
unfolding scratch_fault when
returns-then-lent-limit c = rw (lt-ltb _ _ c.if-lent-limit.true) c.refuse.ensures

pub returns : goal.returns
unfolding scratch_fault when
returns c = rw (le-ltb _ _ c.if-lent-limit.false)
