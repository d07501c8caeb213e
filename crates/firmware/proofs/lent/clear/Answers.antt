-- `firmware::lent::clear` meets its contract.
use Rattle.firmware.proofs.Early.{scratch-small, scratch-cleared}
use Rattle.firmware.proofs.lent.clear.Goals as goal

pub returns-then-scratch-lt-SCRATCH_BYTES : goal.returns-then-scratch-lt-SCRATCH_BYTES
returns-then-scratch-lt-SCRATCH_BYTES c = scratch-small _ c.if-scratch-lt-SCRATCH_BYTES.true

pub returns : goal.returns
returns c = rw (c.fill.ensures.after (λ y h. h)) (scratch-cleared _ c.if-scratch-lt-SCRATCH_BYTES.false)
