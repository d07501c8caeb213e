-- `react::report::write` meets its contract: the rows of the nodes before the counter are written.
use Rattle.react.proofs.Reporting.{Writing}
use Rattle.react.proofs.report.write.Given as goal

abbrev pub invariant-loop-n : goal.invariant-loop-n
invariant-loop-n l =
    Writing l.timed.schedule.now.net.now l.timed.schedule.now.sheet.now l.timed.durations.words.now l.timed.schedule.now.starts l.initial.out l.best l.worst l.n-end
    l.out l.next l.n
