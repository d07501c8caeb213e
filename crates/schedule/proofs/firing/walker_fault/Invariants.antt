-- `schedule::firing::walker_fault` meets its contract: nothing is found at the counts before the counter.
use Rattle.scan.proofs.Basics.{◌≤◌, ◌≡◌, none}
use Rattle.scan.specs.Scan.{first}
use Rattle.sequential.specs.Petri.{petri_net}
use Rattle.schedule.specs.Walker.{walker}
use Rattle.schedule.specs.Firing.{count_fault}
use Rattle.schedule.proofs.firing.walker_fault.Given as goal

abbrev pub invariant-loop-p : goal.invariant-loop-p
invariant-loop-p l = (l.p ≤ 32) × (first (count_fault (petri_net l.net) l.sheet (walker l.n l.counts)) l.p ≡ none)
