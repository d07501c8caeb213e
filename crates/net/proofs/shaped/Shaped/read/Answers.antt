-- `net::shaped::Shaped::read` meets its contract.
use Rattle.scan.proofs.Basics.{sym, ◌∙◌}
use Rattle.refusal.proofs.Verdicts.{answer-none}
use Rattle.net.proofs.Shape.{known}
use Rattle.net.proofs.shaped.Shaped.read.Goals as goal

pub invariant_of-result : goal.invariant_of-result
invariant_of-result c = record { known = known _ (answer-none _ (sym c.shape_fault.ensures ∙ c.in_ok-shape_fault.was)) }
