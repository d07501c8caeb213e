use Rattle.scan.proofs.Basics.{arith, ◌∙◌, ap, length-set}
use Rattle.scan.proofs.Tabulate.{stored_more}
use Rattle.table.specs.Bisection.{lower_bound}
use Rattle.graph.proofs.Starts.{arcs-start-is}
use Rattle.graph.proofs.ArcCount.{arcs-within}
use Rattle.react.proofs.ArcRows.{starts-all}
use Rattle.graph.proofs.Bounds.{bound-low}
use Rattle.react.proofs.rows.starts.Goals as goal

pub overflow_cast-starts : goal.overflow_cast-starts
overflow_cast-starts c =
    let z = bound-low c.requires _ c.lower_bound.ensures in
    omega arith

pub loop-n-preserved : goal.loop-n-preserved
loop-n-preserved c =
    let (a, b, d, f) = c.loop-n.invariant in
    let s = c.requires.sizes in
    let first = c.arcs_start-first.ensures.0 ∙ arcs-start-is _ _ (omega arith) s.some_transition s.few_transitions in
    (simp length-set a, omega arith, d, stored_more _ c.loop-n.starts _ _ f (omega arith) (c.lower_bound.ensures ∙ ap (lower_bound _ 2 _) first))

pub overflow_cast-starts-2 : goal.overflow_cast-starts-2
overflow_cast-starts-2 c = omega (arith, arcs-within)

pub returns : goal.returns
returns c =
    let (a, b, d, f) = c.loop-n.invariant in
    starts-all c.requires c.loop-n.starts a (λ k l. f k (omega arith)) c.arc_count.ensures
