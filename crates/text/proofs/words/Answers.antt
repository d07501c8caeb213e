use Rattle.scan.proofs.Basics.{rules}
use Rattle.text.specs.Lines.{field, word_of, words_text}
use Rattle.text.proofs.Joined.{none-joined, more-joined, all-joined}
use Rattle.text.proofs.Put.{same_length}
use Rattle.text.proofs.words.Goals as goal

pub loop-word-init : goal.loop-word-init
loop-word-init c = none-joined _ _ _

pub loop-word-preserved : goal.loop-word-preserved
unfolding field word_of
loop-word-preserved c = more-joined _ _ c.loop-word.invariant (rw c.from.ensures at c.field-next.ensures)

pub shape_of-out : goal.shape_of-out
shape_of-out c = same_length c.loop-word.invariant

pub returns : goal.returns
unfolding words_text
returns c = search (all-joined, rules)
