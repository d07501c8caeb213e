-- `trim::writer::write` meets its contract.
use Rattle.refusal.proofs.Verdicts.{passed_on}
use Rattle.trim.proofs.Done.{sheet-short, list-short, both-written}
use Rattle.trim.proofs.writer.write.Goals as goal

pub returns-in_err-output_fault : goal.returns-in_err-output_fault
returns-in_err-output_fault c =
    let p = c.requires in
    rw (passed_on _ c.from_residual.ensures.1) (sheet-short _ _ _ _ p.sheet_value p.new_nodes c.entry_count-entries.ensures c.output_fault.ensures c.in_err-output_fault.was)

pub returns-in_err-output_fault-2 : goal.returns-in_err-output_fault-2
returns-in_err-output_fault-2 c =
    let p = c.requires in
    rw (passed_on _ c.from_residual-in_err-output_fault-2.ensures.1)
    (list-short _ _ _ _ p.sheet_value p.new_nodes c.entry_count-entries.ensures c.output_fault-2.ensures c.in_err-output_fault-2.was)

pub returns : goal.returns
returns c =
    let p = c.requires in
    both-written _ _ _ _ p.sheet_value p.new_nodes c.entry_count-entries.ensures c.output_fault.ensures c.in_ok-output_fault.was c.output_fault-2.ensures c.in_ok-output_fault-2.was
    c.write_sheet.ensures c.write_list.ensures
