-- `react::report::write_row` meets its contract: the pairs of the arcs before the counter are written.
use Rattle.react.proofs.Reporting.{RowWriting}
use Rattle.react.proofs.report.write_row.Given as goal

abbrev pub invariant-loop-i : goal.invariant-loop-i
invariant-loop-i l =
    RowWriting l.schedule.net.now l.schedule.sheet.now l.timed.durations.words.now l.schedule.starts l.best l.worst l.n l.initial.out l.at l.first l.out
    l.next l.i
