-- Where a key belongs among the entries of readable words.
use Rattle.scan.proofs.Basics.{ℕ, ◌≤◌, arith, ◌≡◌, List}
use Rattle.table.specs.Bisection.{lower_bound}
use Rattle.table.proofs.Bisection.{LowerBound, lower-bound}
use Rattle.sequential.specs.Petri.{petri_net}
use Rattle.sequential.specs.Words.{entry_count}
use Rattle.sequential.proofs.Words.{words-rise, words-fit}
use Rattle.graph.specs.Readable.{ArcsReadable}

module _ {net sheet : List ℕ} (r : ArcsReadable net sheet) (key : ℕ) where
  pub start-bound : LowerBound sheet 2 (entry_count sheet) key (lower_bound sheet 2 (entry_count sheet) key)
  start-bound = lower-bound sheet 2 (entry_count sheet) key (words-rise (petri_net net) sheet r.holds) (words-fit (petri_net net) sheet r.holds)

  pub bound-low : {x : ℕ} → x ≡ lower_bound sheet 2 (entry_count sheet) key → x ≤ 4096
  bound-low e = omega (arith, start-bound.within, r.sizes.few_entries)
