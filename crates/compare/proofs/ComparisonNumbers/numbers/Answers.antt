-- `compare::ComparisonNumbers::numbers` meets its contract: 1 stands for the truth in both.
use Rattle.scan.proofs.Basics.{refl, Bool, true, false, ◌≡◌}
use Rattle.scan.specs.Scan.{bit}
use mir.Val.{bool_byte}
use Rattle.compare.proofs.ComparisonNumbers.numbers.Goals as goal

byte_bit : (b : Bool) → bool_byte b ≡ bit b
unfolding bit
byte_bit true = refl
byte_bit false = refl

pub returns : goal.returns
returns c = rw (c.from.ensures, byte_bit c.args.self.same)
