-- `graph::shaped::Shaped::read` meets its contract.
use Rattle.scan.proofs.Basics.{sym, ◌∙◌}
use Rattle.refusal.proofs.Verdicts.{answer-none}
use Rattle.sequential.proofs.Words.{shape-out}
use Rattle.graph.proofs.shaped.Shaped.read.Goals as goal

pub invariant_of-result : goal.invariant_of-result
invariant_of-result c = record { shape = shape-out _ (answer-none _ (sym c.shape_fault.ensures ∙ c.in_ok-shape_fault.was)) }
