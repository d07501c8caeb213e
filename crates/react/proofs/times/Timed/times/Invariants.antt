-- `react::times::Timed::times` meets its contract: the times of the nodes before the counter are stored.
use Rattle.react.proofs.AllTimes.{Filling}
use Rattle.react.proofs.times.Timed.times.Given as goal

abbrev pub invariant-loop-n : goal.invariant-loop-n
invariant-loop-n l = Filling l.self.schedule.now.net.now l.self.schedule.now.sheet.now l.self.durations.words.now l.self.schedule.now.starts l.case l.n-end l.memo l.times l.n
