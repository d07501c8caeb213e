-- `minimize::classes::leader` meets its contract: no node before the counter is in n's new class.
use Rattle.scan.proofs.Basics.{◌<◌, ◌≡◌, false}
use Rattle.scan.specs.Scan.{any}
use Rattle.automaton.specs.Equivalence.{in_class}
use Rattle.sequential.specs.Petri.{petri_net}
use Rattle.sequential.specs.Words.{graph}
use Rattle.breadth_first.specs.Along.{class_in}
use Rattle.minimize.specs.Leaders.{split}
use Rattle.minimize.proofs.classes.leader.Given as goal

abbrev pub invariant-loop-m : goal.invariant-loop-m
invariant-loop-m l = (l.n < 128) × (any (in_class (split (graph (petri_net l.net) l.sheet) l.counts (class_in l.classes)) l.n) l.m ≡ false)
