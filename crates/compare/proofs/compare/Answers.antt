-- `compare::compare` meets its contract.
use Rattle.scan.proofs.Basics.{sym, ◌∙◌}
use Rattle.lending.proofs.Named.{unnamed_on}
use Rattle.lending.proofs.Laws.{refused-scratch, served}
use Rattle.compare.proofs.Paths.{scratch-unnamed}
use Rattle.compare.proofs.Says.{compare-done}
use Rattle.compare.proofs.compare.Goals as goal

pub returns-in_err-scratch_fault : goal.returns-in_err-scratch_fault
returns-in_err-scratch_fault c =
    let e = sym c.scratch_fault.ensures ∙ c.in_err-scratch_fault.was in
    compare-done _ _ _ (refused-scratch e (unnamed_on _ c.from_residual.ensures.1 ∙ scratch-unnamed _ _ _ e))

pub returns : goal.returns
returns c =
    compare-done _ _ _ (served (sym c.scratch_fault.ensures ∙ c.in_ok-scratch_fault.was)
    c.compare_into-answer.ensures c.clear_front.ensures)
