-- `minimize::writer::write` meets its contract.
use Rattle.refusal.proofs.Verdicts.{passed_on}
use Rattle.std.specs.Prelude.{Ok}
use Rattle.scan.proofs.Basics.{◌≤◌, arith, refl, sym, ap, ◌∙◌, length}
use Rattle.scan.proofs.Placed.{placed-front}
use Rattle.lending.proofs.Lent.{room-holds}
use Rattle.lending.proofs.Laws.{refused-one, answered-one}
use Rattle.minimal.specs.Minimal.{minimal_form}
use Rattle.minimize.proofs.Writing.{form-length}
use Rattle.minimize.proofs.writer.write.Goals as goal

pub returns-in_err-output_fault : goal.returns-in_err-output_fault
returns-in_err-output_fault c =
    rw (passed_on _ c.from_residual.ensures.1)
    (let p = c.requires in
    let e = form-length p.new_nodes _ c.entry_count-entries.ensures.are in
    refused-one refl p.sheet_value (rw (← e) at (sym c.output_fault.ensures ∙ c.in_err-output_fault.was)) refl)

pub returns : goal.returns
returns c =
    let p = c.requires in
    let a = c.args in
    let e = form-length p.new_nodes _ c.entry_count-entries.ensures.are in
    let f = sym c.output_fault.ensures ∙ c.in_ok-output_fault.was in
    let z : length (minimal_form a.net.now a.sheet.now) ≤ length a.out.now = omega (arith, e, room-holds _ _ f) in
    answered-one refl p.sheet_value (rw (← e) at f) (ap Ok (sym e)) (c.write_form.ensures ∙ placed-front _ _ z)
