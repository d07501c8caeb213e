-- `firmware::decoded::check` meets its contract.
use Rattle.scan.proofs.Basics.{ℕ, length-replicate}
use Rattle.schedule.specs.Calls.{check_core}
use Rattle.firmware.proofs.Cut.{written-cut, check-written, check-asks}
use Rattle.firmware.proofs.decoded.check.Goals as goal

pub returns : goal.returns
returns c =
    written-cut check_core check-asks _ _
    (rw (c.words_in.ensures, c.words_in-2.ensures, length-replicate {A = ℕ} 4228 0, length-replicate {A = ℕ} 8195 0) at (check-written _ _ _ c.check.ensures))
