-- `choice::choice_sets::choices_of` meets its contract: the leaders before the counter are right, and so are the notes.
use Rattle.scan.proofs.Basics.{ℕ, ◌≤◌, ◌<◌, ◌≡◌, length, get_or}
use Rattle.choice.specs.Rows.{net_by_rows}
use Rattle.choice.specs.Choices.{choice_of, Noted}
use Rattle.choice.proofs.choice_sets.choices_of.Given as goal

abbrev pub invariant-loop-i : goal.invariant-loop-i
invariant-loop-i l =
    (l.i ≤ l.transitions) × (length l.leaders ≡ 32) × (length l.notes ≡ 32) × ((j : ℕ) → j < l.i → get_or l.leaders j 0 ≡ choice_of (net_by_rows l.net) j)
    × ((j : ℕ) → j < 32 → Noted (net_by_rows l.net) (get_or l.notes j 0) j) × (l.transitions ≡ (net_by_rows l.net).transitions) × (l.transitions ≤ 32)
