-- `react::rows::Schedule::leads_to` meets its contract.
use Rattle.scan.proofs.Basics.{arith, refl}
use Rattle.table.specs.Table.{value_at}
use Rattle.sequential.specs.Words.{entry_value}
use Rattle.react.proofs.ArcRows.{readable}
use Rattle.react.proofs.rows.Schedule.leads_to.Goals as goal

pub bounds-self-self : goal.bounds-self-self
bounds-self-self c = let z = (readable c.args.self.now.judged.mapped).sizes in omega (arith, z.long)

pub returns : goal.returns
unfolding entry_value value_at
returns c = refl
