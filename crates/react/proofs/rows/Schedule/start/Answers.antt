-- `react::rows::Schedule::start` meets its contract.
use Rattle.scan.proofs.Basics.{arith}
use Rattle.react.proofs.ArcRows.{few_nodes}
use Rattle.react.proofs.rows.Schedule.start.Goals as goal

pub offset_bounds-self-n : goal.offset_bounds-self-n
offset_bounds-self-n c = omega (arith, few_nodes c.args.self.now.judged.mapped)

pub bounds-self-n : goal.bounds-self-n
bounds-self-n c = omega (arith, few_nodes c.args.self.now.judged.mapped)
