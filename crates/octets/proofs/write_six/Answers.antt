use Rattle.scan.proofs.Basics.{arith, ◌≡◌, length}
use Rattle.scan.specs.Scan.{tabulate}
use Rattle.scan.proofs.Placed.{placed-none}
use Rattle.octets.specs.Bytes.{bytes_of}
use Rattle.octets.proofs.Writing.{number-bytes, number_more}
use Rattle.octets.proofs.write_six.Goals as goal

pub loop-i-init : goal.loop-i-init
unfolding tabulate
loop-i-init c = placed-none _ 0

pub loop-i-preserved : goal.loop-i-preserved
loop-i-preserved c = rw (c.put.ensures, c.to_le_bytes.ensures, number-bytes, c.loop-i.invariant) (number_more 8 c.args.numbers c.loop-i.i c.args.out.now)

pub returns : goal.returns
unfolding bytes_of
returns c =
    let e : c.loop-i.i ≡ length c.args.numbers = omega arith in
    rw e at c.loop-i.invariant
