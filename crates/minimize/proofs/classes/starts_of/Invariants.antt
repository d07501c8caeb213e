-- `minimize::classes::starts_of` meets its contract: the entries are right before the counter.
use Rattle.scan.proofs.Basics.{ℕ, ◌<◌, ◌≡◌, length, get_or}
use Rattle.minimize.specs.Agree.{first_entry}
use Rattle.minimize.proofs.classes.starts_of.Given as goal

abbrev pub invariant-loop-n : goal.invariant-loop-n
invariant-loop-n l = (length l.starts ≡ 128) × ((k : ℕ) → k < l.n → get_or l.starts k 0 ≡ first_entry l.net l.sheet l.counts k)
