-- `minimize::writer::row_size` meets its contract.
use Rattle.minimize.specs.Runs.{row_size}
use Rattle.minimize.proofs.NewRows.{row-keyed}
use Rattle.minimize.proofs.writer.row_size.Goals as goal

pub run_of-run-requires : goal.run_of-run-requires
run_of-run-requires c =
    let (r, l) = c.requires in
    rw (c.row_width.ensures, c.first_key-key.ensures) (row-keyed r _ l)

pub returns : goal.returns
unfolding row_size
returns c = rw (c.row_width.ensures, c.first_key-key.ensures) at c.run_of-run.ensures.1
