-- `choice::walk::first_member` meets its contract.
use Rattle.scan.proofs.Basics.{◌+◌, arith}
use Rattle.choice.proofs.Whole.{row-above}
use Rattle.choice.proofs.walk.first_member.Goals as goal

pub overflow_sub-c : goal.overflow_sub-c
overflow_sub-c c = row-above c.requires.row_at c.if-sheet-start.false

pub overflow_cast-c : goal.overflow_cast-c
overflow_cast-c c = omega (arith, c.shared_slice_known-2-1.given (2 + c.args.start))

pub returns : goal.returns
returns c h =
    let r = row-above c.requires.row_at c.if-sheet-start.false in
    record { entry = c.if-sheet-start.false; has = omega arith; own = c.if-leaders-c.false }
