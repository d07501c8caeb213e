-- `mend::writer::copy` meets its contract: the words before the counter are written.
use Rattle.scan.proofs.Basics.{◌≤◌}
use Rattle.scan.specs.Scan.{tabulate}
use Rattle.encoding.specs.Rows.{Appended}
use Rattle.mend.specs.Writing.{copied}
use Rattle.mend.proofs.writer.copy.Given as goal

abbrev pub invariant-loop-i : goal.invariant-loop-i
invariant-loop-i l = (l.i ≤ l.n) × Appended l.initial.out l.at (tabulate (copied l.sheet l.from) l.i) l.next l.out
