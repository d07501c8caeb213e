-- `plainly::answered` meets its contract.
use Rattle.refusal.proofs.Verdicts.{passed_on}
use Rattle.scan.proofs.Basics.{arith, rules, refl, sym, ◌∙◌}
use Rattle.graph.proofs.Readable.{reply-readable}
use Rattle.plainly.proofs.Whole.{fit, spread-answer, refused-answer, accepted-answer}
use Rattle.plainly.proofs.answered.Goals as goal

pub returns-in_err-check : goal.returns-in_err-check
returns-in_err-check c = rw (passed_on _ c.from_residual.ensures.1) (record { value = search (refused-answer, rules); front_alone = record { same_length = refl; past = λ k l. refl } })

pub spread_net-tables-requires : goal.spread_net-tables-requires
spread_net-tables-requires c =
    let r = reply-readable _ _ (sym c.check.ensures ∙ c.in_ok-check.was) in r.arcs.accepted

pub returns : goal.returns
returns c =
    let (tables, nodes) = c.spread_net-tables.ensures in
    let e = c.check.ensures in
    let a = c.in_ok-check.was in
    let grid = c.spread_sheet.ensures in
    record { value = accepted-answer _ _ e a (spread-answer _ _ (sym e ∙ a) _ tables nodes _ grid.spread c.judged.ensures); front_alone = grid.front }

pub bounds-sheet-0 : goal.bounds-sheet-0
bounds-sheet-0 c =
    let r = reply-readable _ _ (sym c.check.ensures ∙ c.in_ok-check.was) in omega arith

pub overflow_cast-sheet : goal.overflow_cast-sheet
overflow_cast-sheet c =
    let r = reply-readable _ _ (sym c.check.ensures ∙ c.in_ok-check.was) in omega arith

pub spread_sheet-requires : goal.spread_sheet-requires
spread_sheet-requires c =
    record { readable = reply-readable _ _ (sym c.check.ensures ∙ c.in_ok-check.was); in_bounds = search rules }

pub invariant_of-page : goal.invariant_of-page
invariant_of-page c =
    let r = reply-readable _ _ (sym c.check.ensures ∙ c.in_ok-check.was) in
    let (tables, nodes) = c.spread_net-tables.ensures in
    search (fit, rules)
