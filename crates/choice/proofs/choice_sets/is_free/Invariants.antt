-- `choice::choice_sets::is_free` meets its contract: a source's choice is free; else no transition before the counter draws on a place of t's without taking the same.
use Rattle.scan.proofs.Basics.{◌≤◌, ◌≡◌, true}
use Rattle.scan.specs.Scan.{all}
use Rattle.sequential.specs.Tests.{shares_alike}
use Rattle.choice.specs.Rows.{net_by_rows}
use Rattle.choice.proofs.choice_sets.is_free.Given as goal

abbrev pub invariant-loop-u : goal.invariant-loop-u
invariant-loop-u l = (l.u ≤ l.transitions) × (all (shares_alike (net_by_rows l.net) l.t) l.u ≡ true) × (l.transitions ≡ (net_by_rows l.net).transitions)
