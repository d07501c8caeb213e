-- `minimize::classes::same_tables` meets its contract: whether the entries before the counter are equal is known.
use Rattle.scan.proofs.Basics.{◌≡◌}
use Rattle.scan.specs.Scan.{all}
use Rattle.minimize.specs.Leaders.{same_entry}
use Rattle.minimize.proofs.classes.same_tables.Given as goal

abbrev pub invariant-loop-n : goal.invariant-loop-n
invariant-loop-n l = l.same ≡ all (same_entry l.a l.b) l.n
