-- `graph::word_check::shape_fault` meets its contract.
use Rattle.scan.proofs.Tests.{lt-ltb, le-ltb, eq-eqb, ne_eqb}
use Rattle.scan.specs.Scan.{or_else, when}
use Rattle.refusal.specs.Finding.{found_by, finding}
use Rattle.sequential.specs.Check.{shape_fault}
use Rattle.scan.proofs.Basics.{arith, sym, ◌∙◌}
use Rattle.graph.proofs.word_check.shape_fault.Goals as goal

pub returns-then-sheet-lt2 : goal.returns-then-sheet-lt2
unfolding shape_fault finding found_by or_else when
returns-then-sheet-lt2 c = c.refuse.ensures ∙ rw (lt-ltb _ _ c.if-sheet-lt2.true)

pub returns-then-not-sizes_pass : goal.returns-then-not-sizes_pass
unfolding shape_fault finding found_by or_else when
returns-then-not-sizes_pass c = c.refuse-then-not-sizes_pass.ensures ∙ rw (le-ltb _ _ c.if-sheet-lt2.false, sym c.sizes_pass.ensures ∙ c.if-not-sizes_pass.true)

pub overflow_cast-entries : goal.overflow_cast-entries
overflow_cast-entries c = omega (arith, c.shared_slice_known-1.given 1)

pub overflow_mul-entries : goal.overflow_mul-entries
overflow_mul-entries c = omega (arith, c.shared_slice_known-1.given 1)

pub overflow_add-entries : goal.overflow_add-entries
overflow_add-entries c = omega (arith, c.shared_slice_known-1.given 1)

pub returns-then-sheet-entries : goal.returns-then-sheet-entries
unfolding shape_fault finding found_by or_else when
returns-then-sheet-entries c =
    c.refuse-then-sheet-entries.ensures
    ∙ rw (le-ltb _ _ c.if-sheet-lt2.false, sym c.sizes_pass.ensures ∙ c.if-not-sizes_pass.false, ne_eqb _ _ c.if-sheet-entries.true)

pub returns : goal.returns
unfolding shape_fault finding found_by or_else when
returns c = rw (le-ltb _ _ c.if-sheet-lt2.false, sym c.sizes_pass.ensures ∙ c.if-not-sizes_pass.false, eq-eqb _ _ c.if-sheet-entries.false)
