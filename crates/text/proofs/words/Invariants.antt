-- `text::words` meets its contract: when the counter is i the first i words are put.
use Rattle.text.specs.Buffer.{Put}
use Rattle.text.specs.Lines.{joined, word_of}
use Rattle.text.proofs.words.Given as goal

abbrev pub invariant-loop-word : goal.invariant-loop-word
invariant-loop-word l = Put l.initial.out l.at (joined (word_of l.words) l.word-index) l.next l.out
