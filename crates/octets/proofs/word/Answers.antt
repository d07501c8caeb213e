-- `octets::word` meets its contract.
use Rattle.octets.proofs.Decoding.{word-past, word-there}
use Rattle.octets.proofs.word.Goals as goal

pub returns-then-bytes-i : goal.returns-then-bytes-i
returns-then-bytes-i c = word-past _ _ c.if-bytes-i.true

pub returns : goal.returns
returns c = word-there _ _ _ c.if-bytes-i.false c.word_from.ensures
