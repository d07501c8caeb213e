-- `choice::choice_sets::rows_fit` meets its contract: by whether the rows meet.
use Rattle.scan.proofs.Basics.{rules, sym, ◌∙◌}
use Rattle.choice.specs.Choices.{rows_fit}
use Rattle.choice.proofs.choice_sets.rows_fit.Goals as goal

pub rows_meet-requires : goal.rows_meet-requires
unfolding rows_fit
rows_meet-requires c = search rules

pub rows_equal-requires : goal.rows_equal-requires
unfolding rows_fit
rows_equal-requires c = search rules

pub returns-then-rows_meet : goal.returns-then-rows_meet
unfolding rows_fit
returns-then-rows_meet c = rw (sym c.rows_meet.ensures ∙ c.if-rows_meet.true) c.rows_equal.ensures

pub returns : goal.returns
unfolding rows_fit
returns c = rw (sym c.rows_meet.ensures ∙ c.if-rows_meet.false)
