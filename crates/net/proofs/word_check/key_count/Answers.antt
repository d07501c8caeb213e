-- `net::word_check::key_count` meets its contract.
use Rattle.scan.proofs.Basics.{◌+◌, ◌*◌, ◌≤◌, arith}
use native.Mathlib.Nat.{mul-le-mul}
use Rattle.net.proofs.word_check.key_count.Goals as goal

pub overflow_mul-result-2 : goal.overflow_mul-result-2
overflow_mul-result-2 c = let a : 2 * c.args.transitions + 2 ≤ 66 = omega arith in omega (arith, mul-le-mul a c.requires.places_le_most_places)
