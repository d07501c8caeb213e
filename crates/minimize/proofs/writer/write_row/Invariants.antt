-- `minimize::writer::write_row` meets its contract: when the counter is k the words of the first k entries are written.
use Rattle.encoding.specs.Encoding.{gather}
use Rattle.encoding.specs.Rows.{Appended}
use Rattle.minimize.specs.Runs.{entry_word, word_at, Running}
use Rattle.minimize.proofs.writer.write_row.Given as goal

abbrev pub invariant-loop-k : goal.invariant-loop-k
invariant-loop-k l =
    Running l.net l.sheet l.numbers l.found l.n l.i l.section l.old l.new l.run.from l.run.size
    × Appended l.initial.out l.at (gather (word_at (entry_word l.sheet l.numbers l.section l.old l.new) l.run.from) l.k) l.next l.out
