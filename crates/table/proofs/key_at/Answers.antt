-- `table::key_at` meets its contract.
use Rattle.scan.proofs.Basics.{◌<◌, arith, rules, length}
use Rattle.table.proofs.Keys.{key-past}
use Rattle.table.specs.Table.{key_at}
use Rattle.table.proofs.key_at.Goals as goal

pub returns-in-Some : goal.returns-in-Some
unfolding key_at
returns-in-Some c =
    let e = c.in-Some.ensures in
    rw (c.unwrap_or.ensures, c.copied.ensures, ← e.1) (c.get.ensures.lookup.4 (omega arith) 0)

pub returns-in-None : goal.returns-in-None
returns-in-None c = let l : length c.args.words.now < 18446744073709551616 = search rules in key-past _ _ _ (omega (arith, c.in-None.ensures))
