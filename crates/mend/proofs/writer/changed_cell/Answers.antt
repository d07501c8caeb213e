-- `mend::writer::changed_cell` meets its contract.
use Rattle.scan.proofs.Tests.{eq-eqb, ne_eqb}
use Rattle.mend.specs.Writing.{changed_number}
use Rattle.mend.proofs.writer.changed_cell.Goals as goal

pub returns-then-new-given : goal.returns-then-new-given
unfolding changed_number
returns-then-new-given c = rw (eq-eqb _ _ c.if-new-given.true)

pub returns : goal.returns
unfolding changed_number
returns c = rw (ne_eqb _ _ c.if-new-given.false)
