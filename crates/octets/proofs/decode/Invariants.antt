-- `octets::decode` meets its contract: when the counter is i the first i words of the buffer are the file's.
use Rattle.scan.proofs.Basics.{◌*◌, ◌≤◌, ◌≡◌, length}
use Rattle.scan.specs.Scan.{tabulate}
use Rattle.scan.specs.Placed.{placed}
use Rattle.octets.specs.Words.{word_at, word_count}
use Rattle.octets.proofs.decode.Given as goal

abbrev pub invariant-loop-i : goal.invariant-loop-i
invariant-loop-i l = (l.i ≤ l.reading.words) × (l.reading.words ≤ length l.initial.out) × (4 * l.reading.words ≤ length l.bytes) × (l.reading.words ≡ word_count (length l.initial.out) l.bytes) ×
    (l.out ≡ placed l.initial.out 0 (tabulate (word_at l.bytes) l.i)) × (length l.out ≡ length l.initial.out)
