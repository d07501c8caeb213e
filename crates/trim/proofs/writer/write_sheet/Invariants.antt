-- `trim::writer::write_sheet` meets its contract: when the counter is i the kept ones of the first i entries are written.
use Rattle.scan.proofs.Basics.{◌≤◌}
use Rattle.trim.proofs.Writing.{Written}
use Rattle.trim.proofs.writer.write_sheet.Given as goal

abbrev pub invariant-loop-i : goal.invariant-loop-i
invariant-loop-i l = (l.done ≤ l.i) × Written l.net l.sheet l.initial.out l.entries l.i l.done l.out
