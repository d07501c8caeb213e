-- `compare::of_schedule` meets its contract.
use Rattle.scan.proofs.Basics.{arith}
use Rattle.compare.specs.Compare.{of_schedule}
use Rattle.compare.proofs.of_schedule.Goals as goal

pub returns-in-ScheduleLength : goal.returns-in-ScheduleLength
unfolding of_schedule
returns-in-ScheduleLength c = grind arith

pub returns-in_default : goal.returns-in_default
unfolding of_schedule
returns-in_default c = grind arith
