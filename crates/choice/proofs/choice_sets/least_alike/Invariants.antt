-- `choice::choice_sets::least_alike` meets its contract: no transition before the counter takes the same as t.
use Rattle.scan.proofs.Basics.{◌≤◌, ◌≡◌, false}
use Rattle.scan.specs.Scan.{any}
use Rattle.automaton.specs.Equivalence.{in_class}
use Rattle.sequential.specs.Tests.{takes_same}
use Rattle.choice.specs.Rows.{net_by_rows}
use Rattle.choice.proofs.choice_sets.least_alike.Given as goal

abbrev pub invariant-loop-u : goal.invariant-loop-u
invariant-loop-u l = (l.u ≤ l.t) × (any (in_class (takes_same (net_by_rows l.net)) l.t) l.u ≡ false)
