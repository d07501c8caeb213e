-- The promise of decimal text, proved.
use Rattle.text.specs.Demands.{DecimalMeans}
use Rattle.text.proofs.Decimal.{reads, are-digits, no_zero_first}

pub decimal-means : DecimalMeans
decimal-means n = record { reads = reads n; digits = are-digits n; no_zero_first = no_zero_first n }
