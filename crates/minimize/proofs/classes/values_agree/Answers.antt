-- `minimize::classes::values_agree` meets its contract.
use Rattle.scan.proofs.Basics.{rules}
use Rattle.table.specs.Table.{value_at}
use Rattle.automaton.specs.Equivalence.{same_class}
use Rattle.sequential.specs.Words.{entry_value}
use Rattle.breadth_first.specs.Along.{class_in}
use Rattle.minimize.specs.Agree.{values_agree}
use Rattle.minimize.proofs.Agree.{target-read}
use Rattle.minimize.proofs.classes.values_agree.Goals as goal

pub returns-then-counts : goal.returns-then-counts
unfolding values_agree entry_value value_at
returns-then-counts c = rw c.if-counts.true

pub bounds-classes-v : goal.bounds-classes-v
bounds-classes-v c = search (target-read, rules)

pub bounds-classes-w : goal.bounds-classes-w
bounds-classes-w c = search (target-read, rules)

pub returns : goal.returns
unfolding values_agree same_class class_in entry_value value_at
returns c = rw c.if-counts.false
