-- `choice::walk::can_walk` meets its contract.
use Rattle.scan.proofs.Basics.{arith, refl, sym, ◌∙◌}
use Rattle.scan.proofs.Tests.{true-false}
use Rattle.choice.proofs.Passed.{shape, root-row}
use Rattle.choice.proofs.walk.can_walk.Goals as goal

pub bounds-sheet-1 : goal.bounds-sheet-1
bounds-sheet-1 c = let s = shape _ _ (sym c.has_row.ensures ∙ c.if-has_row.true) in omega arith

pub returns-then-has_row : goal.returns-then-has_row
returns-then-has_row c h = let e = sym c.has_row.ensures ∙ c.if-has_row.true in (e, root-row _ _ e (c.keys_rise.ensures.0 h).1)

pub returns : goal.returns
returns c h = true-false _ h refl
