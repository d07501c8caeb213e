-- `react::case::Case::pick` meets its contract.
use Rattle.react.specs.Cases.{pick_of}
use Rattle.react.proofs.case.Case.pick.Goals as goal

pub returns-in-Best : goal.returns-in-Best
unfolding pick_of
returns-in-Best c = rw c.in-Best.is c.min.ensures

pub returns-in-Worst : goal.returns-in-Worst
unfolding pick_of
returns-in-Worst c = rw c.in-Worst.is c.max.ensures
