-- `octets::put` meets its contract.
use Rattle.scan.proofs.Basics.{arith, rules, sym, ◌≡◌, length}
use Rattle.scan.proofs.Placed.{placed_past}
use Rattle.octets.proofs.Writing.{placed-mid, placed-cut}
use Rattle.octets.proofs.put.Goals as goal

pub returns-then-out-at : goal.returns-then-out-at
returns-then-out-at g c = sym (placed_past _ _ _ c.if-out-at.true)

pub returns-then-room : goal.returns-then-room
returns-then-room g c =
    let n : length c.args.bytes ≡ g.row.N = search rules in
    rw c.copy_from_slice.ensures.after (placed-mid _ c.args.at c.args.out.now _ (omega arith) (omega arith))

pub returns-else-room : goal.returns-else-room
returns-else-room g c =
    let n : length c.args.bytes ≡ g.row.N = search rules in
    rw c.copy_from_slice-else-room.ensures.after (placed-cut _ c.args.at c.args.out.now c.args.bytes (omega arith) (omega arith))
