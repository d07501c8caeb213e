-- `mend::mend_into` meets its contract.
use Rattle.scan.proofs.Basics.{arith, sym, ap, ◌∙◌}
use Rattle.refusal.specs.Verdict.{verdict_alone}
use Rattle.refusal.proofs.Verdicts.{passed_on}
use Rattle.lending.proofs.Laws.{refused-words}
use Rattle.mend.specs.Measure.{Ready}
use Rattle.mend.proofs.Done.{few, sheet-short, list-short, both-written}
use Rattle.mend.proofs.mend_into.Goals as goal

pub returns-in_err-measure : goal.returns-in_err-measure
returns-in_err-measure c = refused-words (sym c.measured.ensures.reply ∙ ap verdict_alone c.in_err-measure.was) (passed_on _ c.from_residual.ensures.1)

pub overflow_mul-lengths : goal.overflow_mul-lengths
overflow_mul-lengths c =
    let ready : let s = c.args in Ready s.net.now s.sheet.now c.in_ok-measure.measure = c.measured.ensures.ready _ c.in_ok-measure.was in
    let k = few ready in omega arith

pub overflow_add-lengths : goal.overflow_add-lengths
overflow_add-lengths c =
    let ready : let s = c.args in Ready s.net.now s.sheet.now c.in_ok-measure.measure = c.measured.ensures.ready _ c.in_ok-measure.was in
    let k = few ready in omega arith

pub overflow_mul-lengths-2 : goal.overflow_mul-lengths-2
overflow_mul-lengths-2 c =
    let ready : let s = c.args in Ready s.net.now s.sheet.now c.in_ok-measure.measure = c.measured.ensures.ready _ c.in_ok-measure.was in
    let k = few ready in omega arith

pub overflow_add-lengths-2 : goal.overflow_add-lengths-2
overflow_add-lengths-2 c =
    let ready : let s = c.args in Ready s.net.now s.sheet.now c.in_ok-measure.measure = c.measured.ensures.ready _ c.in_ok-measure.was in
    let k = few ready in omega arith

pub returns-in_err-output_fault : goal.returns-in_err-output_fault
returns-in_err-output_fault c =
    rw (passed_on _ c.from_residual-in_err-output_fault.ensures.1)
    (sheet-short _ _ _ _ c.measured.ensures c.in_ok-measure.was c.output_fault.ensures c.in_err-output_fault.was)

pub returns-in_err-output_fault-2 : goal.returns-in_err-output_fault-2
returns-in_err-output_fault-2 c =
    rw (passed_on _ c.from_residual-in_err-output_fault-2.ensures.1)
    (list-short _ _ _ _ c.measured.ensures c.in_ok-measure.was c.output_fault-2.ensures c.in_err-output_fault-2.was)

pub write_sheet-requires : goal.write_sheet-requires
write_sheet-requires c =
    let ready : let s = c.args in Ready s.net.now s.sheet.now c.in_ok-measure.measure = c.measured.ensures.ready _ c.in_ok-measure.was in
    let k = ready in
    record { mendable = k.mendable; entries_value = k.entries_are }

pub write_list-requires : goal.write_list-requires
write_list-requires c =
    let ready : let s = c.args in Ready s.net.now s.sheet.now c.in_ok-measure.measure = c.measured.ensures.ready _ c.in_ok-measure.was in
    let k = ready in
    record { mendable = k.mendable; changes_value = k.changes_are }

pub returns : goal.returns
returns c =
    both-written _ _ _ _ c.measured.ensures c.in_ok-measure.was c.output_fault.ensures c.in_ok-output_fault.was c.output_fault-2.ensures c.in_ok-output_fault-2.was
    c.write_sheet.ensures c.write_list.ensures
