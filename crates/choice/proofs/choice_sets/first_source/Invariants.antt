-- `choice::choice_sets::first_source` meets its contract: no transition before the counter is a source.
use Rattle.scan.proofs.Basics.{◌≤◌, ◌≡◌, false}
use Rattle.scan.specs.Scan.{any}
use Rattle.sequential.specs.Tests.{is_source}
use Rattle.choice.specs.Rows.{net_by_rows}
use Rattle.choice.proofs.choice_sets.first_source.Given as goal

abbrev pub invariant-loop-t : goal.invariant-loop-t
invariant-loop-t l = (l.t ≤ l.transitions) × (any (is_source (net_by_rows l.net)) l.t ≡ false) × (l.transitions ≡ (net_by_rows l.net).transitions)
