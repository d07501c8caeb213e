-- The look-ups answer what they are promised to.
use Rattle.table.specs.Demands.{LookUpsMean}
use Rattle.table.proofs.Bisection.{lower-bound, look_up_lem}
use Rattle.table.proofs.Row.{row-entry, row-past, value-at, value_past}

pub look-ups-mean : LookUpsMean
look-ups-mean words offset entries up fits = record {
  within = λ k. (lower-bound words offset entries k up fits).within;
  below = λ k. (lower-bound words offset entries k up fits).below;
  above = λ k. (lower-bound words offset entries k up fits).above;
  finds = λ k. look_up_lem words offset entries k up fits;
  row = λ first width. row-entry words offset entries first width up fits;
  past = λ first width. row-past words offset entries first width;
  value = λ h first width. value-at words offset entries first width up h;
  value_past = λ first width. value_past words offset entries first width;
}
