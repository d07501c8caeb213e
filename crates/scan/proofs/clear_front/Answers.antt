-- `scan::clear_front` meets its contract.
use Rattle.scan.proofs.Basics.{arith}
use Rattle.scan.proofs.Front.{cleared-front}
use Rattle.scan.proofs.clear_front.Goals as goal

pub returns : goal.returns
returns c = rw (c.fill.ensures.after (λ y h. h)) (cleared-front c.min-front.result c.args.n c.args.words.now (omega (arith, c.min-front.ensures)))
