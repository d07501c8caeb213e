-- `octets::word_from` meets its contract.
use Rattle.scan.proofs.Basics.{arith}
use Rattle.octets.specs.Words.{word_from}
use Rattle.octets.proofs.word_from.Goals as goal

pub returns : goal.returns
unfolding word_from
returns c = omega (arith, c.from_le_bytes.ensures)
