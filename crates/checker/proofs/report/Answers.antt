-- `checker::report` meets its contract: the buffers are long enough for all that is read and printed.
use Rattle.std.proofs.Common.{◌∙◌}
use Rattle.files.proofs.Whole.{read-prints, prints-whole, text-counted}
use Rattle.checker.proofs.report.Goals as goal

pub returns-clause-prints : goal.returns-clause-prints
returns-clause-prints c netFile sheetFile x y =
    let p = c.requires.buffers in
    let a = c.args in
    prints-whole _ _ _ _ _ _ _ _ _ _ _ _ _ p c.print_files.ensures ∙ read-prints netFile sheetFile a.netbin.now a.sheetbin.now a.n a.s p.net_bytes p.sheet_bytes x y

pub returns-clause-text_len : goal.returns-clause-text_len
returns-clause-text_len c = text-counted _ _ _ _ _ _ _ _ _ _ _ _ _ c.requires.buffers c.print_files.ensures
