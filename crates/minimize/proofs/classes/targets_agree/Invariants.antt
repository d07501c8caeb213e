-- `minimize::classes::targets_agree` meets its contract: the targets before the counter agree.
use Rattle.scan.proofs.Basics.{◌≡◌, true}
use Rattle.scan.specs.Scan.{all}
use Rattle.minimize.specs.Agree.{targets_agree}
use Rattle.minimize.proofs.classes.targets_agree.Given as goal

abbrev pub invariant-loop-s : goal.invariant-loop-s
invariant-loop-s l = all (targets_agree l.sheet l.classes l.i l.j) l.s ≡ true
