-- `react::case::Case::start` meets its contract.
use Rattle.react.specs.Cases.{start_of}
use Rattle.react.proofs.case.Case.start.Goals as goal

pub returns-in-Best : goal.returns-in-Best
unfolding start_of
returns-in-Best c = rw c.in-Best.is

pub returns-in-Worst : goal.returns-in-Worst
unfolding start_of
returns-in-Worst c = rw c.in-Worst.is
