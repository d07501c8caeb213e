-- `octets::measure` meets its contract.
use Rattle.scan.proofs.Basics.{arith}
use Rattle.scan.proofs.Tests.{le-ltb}
use Rattle.octets.proofs.Decoding.{long-read, short-read}
use Rattle.octets.proofs.measure.Goals as goal

pub returns-then-whole-most : goal.returns-then-whole-most
returns-then-whole-most c = let r = short-read c.args.most c.args.bytes.now (omega arith) in (omega (arith, r.0, c.min.ensures), r.1)

pub returns-else-whole-most : goal.returns-else-whole-most
returns-else-whole-most c =
    let r = long-read c.args.most c.args.bytes.now (omega arith) in
    (omega (arith, r.0, c.min.ensures), rw (le-ltb _ _ c.if-whole-most.false) r.1)
