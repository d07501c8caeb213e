-- `replay::tally::row_of` meets its contract.
use Rattle.replay.proofs.tally.row_of.Goals as goal

pub returns-then-putting : goal.returns-then-putting
returns-then-putting c = rw c.if-putting.true c.put_row.ensures

pub returns : goal.returns
returns c = rw c.if-putting.false c.taken_row.ensures
