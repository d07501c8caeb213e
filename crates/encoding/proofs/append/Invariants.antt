-- `encoding::append` meets its contract: when the counter is c the words of the first c columns are written.
use Rattle.encoding.specs.Encoding.{gather}
use Rattle.encoding.specs.Rows.{column_word, Appended}
use Rattle.encoding.proofs.append.Given as goal

abbrev pub invariant-loop-c : goal.invariant-loop-c
invariant-loop-c l = Appended l.initial.out l.at (gather (column_word l.section l.first l.cells) l.c) l.next l.out
