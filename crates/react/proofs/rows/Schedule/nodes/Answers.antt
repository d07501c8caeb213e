-- `react::rows::Schedule::nodes` meets its contract.
use Rattle.scan.proofs.Basics.{arith}
use Rattle.react.proofs.ArcRows.{readable, few_nodes}
use Rattle.react.proofs.rows.Schedule.nodes.Goals as goal

pub bounds-self-0 : goal.bounds-self-0
bounds-self-0 c = omega (arith, (readable c.args.self.now.judged.mapped).sizes.long)

pub returns-clause-few : goal.returns-clause-few
returns-clause-few c = few_nodes c.args.self.now.judged.mapped
