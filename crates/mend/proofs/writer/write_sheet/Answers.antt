-- `mend::writer::write_sheet` meets its contract: the two sizes, then the keys, then the values.
use Rattle.encoding.proofs.Rows.{appended-more}
use Rattle.mend.proofs.Writes.{entries-most, sheet_words, written_from}
use Rattle.scan.proofs.Basics.{arith}
use Rattle.mend.proofs.writer.write_sheet.Goals as goal

pub overflow_cast-entries : goal.overflow_cast-entries
overflow_cast-entries c = omega (arith, entries-most)

pub returns : goal.returns
returns c =
    let m = c.requires.mendable in let e = c.requires.entries_value in
    let a = rw e at c.put-next-2.ensures in
    written_from (appended-more (appended-more (appended-more c.put-next.ensures a) c.write_half-next.ensures) c.write_half.ensures)
    (sheet_words _ _ m.fitting.readable)
