-- `react::durations::Durations::lasts` meets its contract.
use Rattle.reaction.specs.Words.{early, late}
use Rattle.react.specs.Cases.{duration_of}
use Rattle.react.proofs.durations.Durations.lasts.Goals as goal

pub returns-in-Best : goal.returns-in-Best
unfolding duration_of early
returns-in-Best c = rw c.in-Best.is

pub returns-in-Worst : goal.returns-in-Worst
unfolding duration_of late
returns-in-Worst c = rw (c.in-Worst.is, c.args.self.now.shape.same)
