-- `minimize::classes::round` meets its contract: the entries are right before the counter.
use Rattle.scan.proofs.Basics.{◌≤◌, ◌≡◌, length}
use Rattle.sequential.specs.Petri.{petri_net}
use Rattle.sequential.specs.Words.{graph}
use Rattle.breadth_first.specs.Along.{class_in}
use Rattle.minimize.specs.Leaders.{LeadersBy, split}
use Rattle.minimize.proofs.classes.round.Given as goal

abbrev pub invariant-loop-n : goal.invariant-loop-n
invariant-loop-n l =
    (l.nodes ≤ 128) × (length l.next ≡ 128) × LeadersBy (split (graph (petri_net l.net) l.sheet) l.counts (class_in l.classes)) l.n l.next
