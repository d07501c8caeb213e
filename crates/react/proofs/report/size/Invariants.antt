-- `react::report::size` meets its contract: the rows of the nodes before the counter are counted.
use Rattle.react.proofs.ReportSize.{Sizing}
use Rattle.react.proofs.report.size.Given as goal

abbrev pub invariant-loop-n : goal.invariant-loop-n
invariant-loop-n l = Sizing l.schedule.net.now l.schedule.sheet.now l.schedule.starts l.n-end l.size l.n
