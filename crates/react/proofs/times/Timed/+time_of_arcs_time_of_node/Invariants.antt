-- `react::times::Timed::time_of_node` and `time_of_arcs` meet their contracts; the measure is twice the number of nodes not visited, and 1 more in `time_of_arcs`.
use Rattle.scan.proofs.Basics.{◌+◌, ◌*◌}
use Rattle.reaction.specs.Memo.{unvisited}
use Rattle.react.proofs.Recursion.{Going}
use Rattle.react.proofs.times.Timed.+time_of_arcs_time_of_node.Given as goal

abbrev pub decreases-time_of_arcs : goal.decreases-time_of_arcs
decreases-time_of_arcs l = 2 * unvisited l.memo.now + 1

abbrev pub decreases-time_of_node : goal.decreases-time_of_node
decreases-time_of_node l = 2 * unvisited l.memo.now

abbrev pub invariant-time_of_arcs-loop-i : goal.invariant-time_of_arcs-loop-i
invariant-time_of_arcs-loop-i l =
    Going l.schedule.net.now l.schedule.sheet.now l.self.durations.words.now l.schedule.starts l.case l.n l.initial.memo l.first l.memo l.time l.i
