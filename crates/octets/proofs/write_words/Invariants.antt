-- `octets::write_words` meets its contract: when the counter is i the first 4 × i bytes are those of the words.
use Rattle.scan.proofs.Basics.{◌*◌, ◌≡◌}
use Rattle.scan.specs.Scan.{tabulate}
use Rattle.scan.specs.Placed.{placed}
use Rattle.octets.specs.Bytes.{byte_at}
use Rattle.octets.proofs.write_words.Given as goal

abbrev pub invariant-loop-i : goal.invariant-loop-i
invariant-loop-i l = l.out ≡ placed l.initial.out 0 (tabulate (byte_at 4 l.fn.words) (4 * l.i))
