-- `net::word_check::entries_fault` meets its contract: nothing is found at the entries before the counter.
use Rattle.scan.proofs.Basics.{◌≤◌, ◌≡◌, none}
use Rattle.scan.specs.Scan.{first}
use Rattle.net.specs.Check.{entry_fault}
use Rattle.net.proofs.word_check.entries_fault.Given as goal

abbrev pub invariant-loop-i : goal.invariant-loop-i
invariant-loop-i l = (l.i ≤ l.entries) × (first (entry_fault l.net.words.now) l.i ≡ none)
