use Rattle.scan.proofs.Basics.{arith, rules}
use Rattle.mend.specs.Writing.{changed_cell}
use Rattle.mend.proofs.Storing.{storing-none, storing-more, storing-all}
use Rattle.mend.proofs.writer.changed_cells.Goals as goal

pub loop-p-init : goal.loop-p-init
loop-p-init c = storing-none (omega arith) (search rules)

pub changed_cell-requires : goal.changed_cell-requires
changed_cell-requires c = c.requires _ c.loop-p-test.true

pub loop-p-preserved : goal.loop-p-preserved
unfolding changed_cell
loop-p-preserved c = search (storing-more, rules)

pub returns : goal.returns
returns c = search (storing-all, rules)
