-- `mend::writer::write_part` meets its contract: the rows before the counter are written.
use Rattle.encoding.specs.Rows.{Appended}
use Rattle.mend.specs.Writing.{part_to}
use Rattle.mend.proofs.Climbing.{RowsTo}
use Rattle.mend.proofs.writer.write_part.Given as goal

abbrev pub invariant-loop-n : goal.invariant-loop-n
invariant-loop-n l = RowsTo l.net l.sheet l.parent l.nodes l.counts l.known l.n × Appended l.initial.out l.at (part_to l.net l.sheet l.part l.section l.n) l.next l.out
