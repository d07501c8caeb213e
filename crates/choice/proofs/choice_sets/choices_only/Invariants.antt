-- `choice::choice_sets::choices_only` meets its contract: before the counter the table is that of the net with one source left.
use Rattle.scan.proofs.Basics.{ℕ, ◌≤◌, ◌<◌, ◌≡◌, length, get_or}
use Rattle.sequential.specs.Only.{only}
use Rattle.choice.specs.Rows.{net_by_rows}
use Rattle.choice.specs.Choices.{choice_of}
use Rattle.choice.proofs.choice_sets.choices_only.Given as goal

abbrev pub invariant-loop-i : goal.invariant-loop-i
invariant-loop-i l = (l.i ≤ l.transitions) × (length l.leaders ≡ 32) × ((j : ℕ) → j < l.i → get_or l.leaders j 0 ≡ choice_of (only (net_by_rows l.net) l.s) j)
