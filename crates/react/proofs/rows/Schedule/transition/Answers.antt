-- `react::rows::Schedule::transition` meets its contract.
use Rattle.scan.proofs.Basics.{arith, refl}
use Rattle.table.specs.Table.{key_at}
use Rattle.sequential.specs.Words.{entry_key}
use Rattle.react.proofs.ArcRows.{readable}
use Rattle.react.proofs.rows.Schedule.transition.Goals as goal

pub overflow_add-result : goal.overflow_add-result
overflow_add-result c = let z = (readable c.args.self.now.judged.mapped).sizes in omega (arith, z.few_entries)

pub offset_bounds-self-i : goal.offset_bounds-self-i
offset_bounds-self-i c = let z = (readable c.args.self.now.judged.mapped).sizes in omega (arith, z.few_entries)

pub bounds-self-i : goal.bounds-self-i
bounds-self-i c = let z = (readable c.args.self.now.judged.mapped).sizes in omega (arith, z.long)

pub overflow_sub-result : goal.overflow_sub-result
unfolding entry_key key_at
overflow_sub-result c = c.requires.first_bound

pub returns : goal.returns
unfolding entry_key key_at
returns c = refl
