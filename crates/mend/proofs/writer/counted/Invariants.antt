-- `mend::writer::counted` meets its contract: the entries of the rows before the counter are counted.
use Rattle.scan.proofs.Basics.{◌≡◌, length}
use Rattle.encoding.specs.declared.Section.TheVariants.{CountKeys}
use Rattle.mend.specs.Writing.{part_to}
use Rattle.mend.proofs.Climbing.{RowsTo}
use Rattle.mend.proofs.writer.counted.Given as goal

abbrev pub invariant-loop-n : goal.invariant-loop-n
invariant-loop-n l = RowsTo l.net l.sheet l.parent l.nodes l.counts l.known l.n × (l.entries ≡ length (part_to l.net l.sheet l.part CountKeys l.n))
