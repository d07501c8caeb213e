-- `mend::writer::write_list` meets its contract: how many changes there are, then their keys, then the new counts.
use Rattle.encoding.specs.declared.Section.TheVariants.{CountKeys}
use Rattle.encoding.proofs.Rows.{appended-more}
use Rattle.mend.specs.declared.writer.Part.TheVariants.{Changes}
use Rattle.mend.proofs.Writes.{part-most, list-words, written_from}
use Rattle.scan.proofs.Basics.{arith}
use Rattle.mend.proofs.writer.write_list.Goals as goal

pub overflow_cast-changes : goal.overflow_cast-changes
overflow_cast-changes c =
    let m = c.requires.mendable in let e = c.requires.changes_value in
    omega (arith, e, part-most _ _ m.fitting.readable Changes CountKeys)

pub returns : goal.returns
returns c =
    let m = c.requires.mendable in let e = c.requires.changes_value in
    let a = rw e at c.put-next.ensures in
    written_from (appended-more (appended-more a c.write_part-next.ensures) c.write_part.ensures) (list-words _ _ m.fitting.readable)
