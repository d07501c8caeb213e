-- `minimize::both::written` meets its contract.
use Rattle.refusal.proofs.Verdicts.{passed_on}
use Rattle.minimize.proofs.TwoForms.{first_short, second_short, both-written}
use Rattle.minimize.proofs.both.written.Goals as goal

pub returns-in_err-output_fault : goal.returns-in_err-output_fault
returns-in_err-output_fault c =
    rw (passed_on _ c.from_residual.ensures.1)
    (let x = c.requires.first_value in let y = c.requires.second_value in
    first_short x y c.measured-former.ensures c.measured-latter.ensures c.output_fault.ensures c.in_err-output_fault.was)

pub returns-in_err-output_fault-2 : goal.returns-in_err-output_fault-2
returns-in_err-output_fault-2 c =
    rw (passed_on _ c.from_residual-in_err-output_fault-2.ensures.1)
    (let x = c.requires.first_value in let y = c.requires.second_value in
    second_short x y c.measured-former.ensures c.measured-latter.ensures c.output_fault-2.ensures c.in_err-output_fault-2.was)

pub returns : goal.returns
returns c =
    let x = c.requires.first_value in let y = c.requires.second_value in
    both-written x y c.measured-former.ensures c.measured-latter.ensures c.output_fault.ensures c.in_ok-output_fault.was
    c.output_fault-2.ensures c.in_ok-output_fault-2.was c.write_form.ensures c.write_form-2.ensures
