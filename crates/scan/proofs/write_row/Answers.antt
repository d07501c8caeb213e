-- `scan::write_row` meets its contract.
use Rattle.scan.proofs.Basics.{arith, rules, ◌≡◌, length}
use Rattle.scan.proofs.Placed.{placed-row}
use Rattle.scan.proofs.write_row.Goals as goal

pub returns : goal.returns
returns g c =
    let k : length c.args.row ≡ 32 = search rules in
    rw c.copy_from_slice.ensures.after (placed-row c.min-front.result c.args.n c.args.row c.args.out.now (omega (arith, c.min.ensures, c.min-front.ensures)))
