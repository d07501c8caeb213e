-- `trim::writer::entry_count` meets its contract: when the counter is i the kept ones of the first i entries are counted.
use Rattle.scan.proofs.Basics.{◌≤◌, ◌≡◌}
use Rattle.scan.specs.Scan.{count}
use Rattle.sequential.specs.Petri.{petri_net}
use Rattle.trimmed.specs.Entries.{entry_kept}
use Rattle.trim.proofs.writer.entry_count.Given as goal

abbrev pub invariant-loop-i : goal.invariant-loop-i
invariant-loop-i l = (l.entries ≤ l.i) × (l.entries ≡ count (entry_kept (petri_net l.net) l.sheet) l.i)
