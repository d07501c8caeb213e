-- What is promised of the bounds that are answered without a check of the schedule, as a statement on words that pass 1 to 9 and 26. proofs/Demands has the term.
use Rattle.std.specs.Prelude.{ℕ, ◌≡◌, List}
use Rattle.scan.specs.Scan.{tabulate}
use Rattle.refusal.specs.Limits.{most_places}
use Rattle.net.specs.Checks.{IsNet}
use Rattle.sequential.specs.Petri.{petri_net}
use Rattle.sequential.specs.Bounds.{bound}
use Rattle.sequential.specs.Checks.{WordsPass}
use Rattle.schedule.specs.Rows.{bounds_row}

-- the bound of each place, 0 from P on
abbrev pub BoundsMean : Type 0
BoundsMean = (net sheet : List ℕ) → IsNet net → WordsPass (petri_net net) sheet → bounds_row net sheet ≡ tabulate (bound (petri_net net) sheet) most_places
