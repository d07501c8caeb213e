-- `firmware::decoded::form` meets its contract.
use Rattle.scan.proofs.Basics.{ℕ, length-replicate}
use Rattle.minimal.specs.Form.{form_core}
use Rattle.firmware.proofs.Cut.{written-cut, form-asks}
use Rattle.firmware.proofs.decoded.form.Goals as goal

pub returns : goal.returns
returns c =
    written-cut form_core form-asks _ _
    (rw (c.words_in.ensures, c.words_in-2.ensures, length-replicate {A = ℕ} 4228 0, length-replicate {A = ℕ} 8195 0) at c.form.ensures)
