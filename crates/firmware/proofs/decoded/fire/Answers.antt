-- `firmware::decoded::fire` meets its contract.
use Rattle.scan.proofs.Basics.{ℕ, ◌∙◌, length-replicate}
use Rattle.firmware.proofs.Firing.{next-cut}
use Rattle.firmware.proofs.decoded.fire.Goals as goal

pub returns : goal.returns
returns c =
    rw (c.words_in.ensures, c.words_in-2.ensures, length-replicate {A = ℕ} 4228 0, length-replicate {A = ℕ} 8195 0) at c.fire.ensures ∙ next-cut _ _ _ _
