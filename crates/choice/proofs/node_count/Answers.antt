-- `choice::node_count` meets its contract.
use Rattle.scan.proofs.Basics.{arith, ◌≡◌, get_or}
use lib.ListN.{get_or-eq_default}
use Rattle.choice.proofs.node_count.Goals as goal

pub returns-then-sheet-lt1 : goal.returns-then-sheet-lt1
returns-then-sheet-lt1 c = let s = c.args.sheet.now in let e : get_or s 0 0 ≡ 0 = get_or-eq_default s 0 {n = 0} (omega arith) in omega arith
