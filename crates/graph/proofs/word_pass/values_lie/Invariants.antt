-- `graph::word_pass::values_lie` meets its contract: where nothing was found, the values before the counter lie in their range.
use Rattle.scan.proofs.Basics.{◌≤◌, ◌≡◌, true}
use Rattle.graph.specs.Readable.{ValuesLie}
use Rattle.graph.proofs.word_pass.values_lie.Given as goal

abbrev pub invariant-loop-i : goal.invariant-loop-i
invariant-loop-i l = (l.from ≤ l.i) × (l.lie ≡ true → ValuesLie l.sheet.words.now l.from l.i l.low l.limit)
