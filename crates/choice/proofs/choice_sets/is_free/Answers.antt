use Rattle.scan.proofs.Basics.{arith, ◌≡◌, sym, ◌∙◌}
use Rattle.scan.proofs.Every.{all_in, all_more, all-fails}
use Rattle.sequential.specs.Tests.{free_choice}
use Rattle.sequential.proofs.Choices.{source-is-free}
use Rattle.choice.specs.Rows.{net_by_rows}
use Rattle.choice.proofs.Choices.{source_told, fit-told}
use Rattle.choice.proofs.choice_sets.is_free.Goals as goal

pub row_empty-requires : goal.row_empty-requires
row_empty-requires c = omega (arith, c.places-places.ensures)

pub returns-then-row_empty : goal.returns-then-row_empty
returns-then-row_empty c = sym (source-is-free _ _ (sym (c.row_empty.ensures ∙ source_told _ _ c.places-places.ensures _ _ c.taken_row-taken.ensures) ∙ c.if-row_empty.true))

pub overflow_cast-transitions : goal.overflow_cast-transitions
overflow_cast-transitions c = omega (arith, c.transitions-transitions.ensures)

pub loop-u-init : goal.loop-u-init
unfolding net_by_rows
loop-u-init c = (omega arith, all_in _ _ (λ j l. absurd (omega arith)), c.transitions-transitions.ensures)

pub rows_fit-requires : goal.rows_fit-requires
rows_fit-requires c = omega (arith, c.places-places.ensures)

pub returns-then-not-rows_fit : goal.returns-then-not-rows_fit
unfolding free_choice
returns-then-not-rows_fit c =
    let told = fit-told _ _ c.places-places.ensures _ _ _ _ c.taken_row-taken.ensures c.taken_row.ensures in
    sym (all-fails _ _ _ (omega (arith, c.loop-u.invariant.2, c.loop-u-test.true)) (sym (c.rows_fit.ensures ∙ told) ∙ c.if-not-rows_fit.true))

pub loop-u-preserved : goal.loop-u-preserved
loop-u-preserved c =
    let told = fit-told _ _ c.places-places.ensures _ _ _ _ c.taken_row-taken.ensures c.taken_row.ensures in
    (omega arith, all_more _ _ c.loop-u.invariant.1 (sym (c.rows_fit.ensures ∙ told) ∙ c.if-not-rows_fit.false), c.loop-u.invariant.2)

pub returns : goal.returns
unfolding free_choice
returns c =
    let l = c.loop-u.invariant in
    let e : c.loop-u.u ≡ c.transitions-transitions.result = omega arith in
    let q = e ∙ l.2 in
    sym (rw q at l.1)
