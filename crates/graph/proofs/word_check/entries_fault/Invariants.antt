-- `graph::word_check::entries_fault` meets its contract: all pass, or nothing is found at the entries before the counter.
use Rattle.scan.proofs.Basics.{◌≤◌, ◌≡◌, none}
use Rattle.scan.specs.Scan.{first}
use Rattle.sequential.specs.Check.{entry_fault}
use Rattle.graph.specs.Readable.{value_test}
use Rattle.graph.proofs.word_check.entries_fault.Given as goal

abbrev pub invariant-loop-i : goal.invariant-loop-i
invariant-loop-i l = (l.i ≤ l.entries) × (first (entry_fault l.sheet.words.now l.limit (value_test l.counts l.sheet.words.now l.arcs)) l.i ≡ none)
