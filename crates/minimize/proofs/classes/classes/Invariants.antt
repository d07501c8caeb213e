-- `minimize::classes::classes` meets its contract: after k rounds the table holds the leaders of k rounds.
use Rattle.scan.proofs.Basics.{◌≡◌, length}
use Rattle.automaton.specs.Equivalence.{same_in}
use Rattle.sequential.specs.Petri.{petri_net}
use Rattle.sequential.specs.Words.{node_count, graph}
use Rattle.minimize.specs.Leaders.{LeadersBy}
use Rattle.minimize.proofs.classes.classes.Given as goal

abbrev pub invariant-loop-round : goal.invariant-loop-round
invariant-loop-round l = (length l.classes ≡ 128) × LeadersBy (same_in (graph (petri_net l.net) l.sheet) l._round) (node_count l.sheet) l.classes
