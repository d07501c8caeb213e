-- `compose::checks::sheets_told` meets its contract: no schedule before the counter is refused.
use Rattle.scan.proofs.Basics.{ℕ, ◌≤◌, ◌<◌, ◌≡◌, none}
use Rattle.sequential.specs.Petri.{petri_net}
use Rattle.composed.specs.Sheet.{given_sheets}
use Rattle.composed.specs.Fault.{sheet_fault}
use Rattle.compose.proofs.checks.sheets_told.Given as goal

abbrev pub invariant-loop-i : goal.invariant-loop-i
invariant-loop-i l = (l.i ≤ l.number) × ((j : ℕ) → j < l.i → sheet_fault (petri_net l.net) l.number (given_sheets l.number l.sheets.a.now l.sheets.b.now l.sheets.c.now l.sheets.d.now) j ≡ none)
