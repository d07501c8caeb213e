-- `react::rows::Schedule::first_key` meets its contract.
use Rattle.scan.proofs.Basics.{arith, ◌∙◌}
use Rattle.react.proofs.ArcRows.{few_nodes, first_key_lem}
use Rattle.react.proofs.rows.Schedule.first_key.Goals as goal

pub overflow_cast-n : goal.overflow_cast-n
overflow_cast-n c = omega (arith, c.requires, few_nodes c.args.self.now.judged.mapped)

pub returns : goal.returns
returns c = c.arcs_start.ensures.0 ∙ first_key_lem c.args.self.now.judged.mapped c.requires
