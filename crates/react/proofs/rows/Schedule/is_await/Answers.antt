-- `react::rows::Schedule::is_await` meets its contract.
use Rattle.scan.proofs.Basics.{arith}
use Rattle.reach.specs.Reach.{is_marked}
use Rattle.react.proofs.ArcRows.{few_nodes}
use Rattle.react.proofs.rows.Schedule.is_await.Goals as goal

pub bounds-self-n : goal.bounds-self-n
bounds-self-n c = omega (arith, few_nodes c.args.self.now.judged.mapped)

pub returns : goal.returns
unfolding is_marked
returns c = c.args.self.now.judged.marks _ c.requires
