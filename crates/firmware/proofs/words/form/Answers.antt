-- `firmware::words::form` meets its contract.
use Rattle.std.specs.Prelude.{Ok}
use Rattle.scan.proofs.Basics.{ℕ, refl, sym, ap, ◌∙◌, List, length-replicate}
use lib.Seq.{length-take-le}
use Rattle.scan.specs.Placed.{placed}
use Rattle.refusal.proofs.Verdicts.{passed_on}
use Rattle.octets.specs.Bytes.{bytes_of}
use Rattle.firmware.proofs.Results.{form-written, form-refused, refused-room, answered-room}
use Rattle.firmware.proofs.words.form.Goals as goal

pub returns-in_err-k : goal.returns-in_err-k
returns-in_err-k c =
    rw (passed_on _ c.from_residual.ensures.1) (form-refused _ _ _ _ _ _ _ (length-replicate {A = ℕ} 8194 0) c.form_into.ensures c.in_err-k.was)

pub returns-in_err-output_fault : goal.returns-in_err-output_fault
returns-in_err-output_fault c =
    let f = form-written _ _ _ _ _ _ (length-replicate {A = ℕ} 8194 0) c.form_into.ensures c.in_ok-k.was in
    refused-room refl f.accepted (rw f.count at (sym c.output_fault.ensures ∙ c.in_err-output_fault.was)) (passed_on _ c.from_residual-in_err-output_fault.ensures.1)

pub slice_bounds-form-end : goal.slice_bounds-form-end
slice_bounds-form-end c = (form-written _ _ _ _ _ _ (length-replicate {A = ℕ} 8194 0) c.form_into.ensures c.in_ok-k.was).fits

pub slice_bounds-write_words-end : goal.slice_bounds-write_words-end
slice_bounds-write_words-end c = sym (length-take-le _ _ ((form-written _ _ _ _ _ _ (length-replicate {A = ℕ} 8194 0) c.form_into.ensures c.in_ok-k.was).fits))

pub returns : goal.returns
returns c =
    let f = form-written _ _ _ _ _ _ (length-replicate {A = ℕ} 8194 0) c.form_into.ensures c.in_ok-k.was in
    answered-room refl f.accepted (rw f.count at (sym c.output_fault.ensures ∙ c.in_ok-output_fault.was)) (ap Ok f.count)
    (c.write_words.ensures ∙ ap (λ (x : List ℕ). placed c.args.out.now 0 (bytes_of 4 x)) f.front)
