use Rattle.scan.proofs.Basics.{arith, ◌≡◌, refl}
use Rattle.scan.specs.Scan.{sum}
use Rattle.scan.proofs.Sum.{sum_more}
use Rattle.replay.specs.Tally.{at}
use Rattle.replay.proofs.Sums.{sum-most}
use Rattle.replay.proofs.tally.total.Goals as goal

pub loop-p-init : goal.loop-p-init
unfolding sum
loop-p-init c = (omega arith, refl)

pub overflow_add-all : goal.overflow_add-all
overflow_add-all c =
    let w = c.loop-p in
    let most = c.requires.at_most in
    let s = sum-most (at c.args.row) 1125899906842624 w.p (λ i k. most i (omega arith)) in
    omega (arith, most w.p (omega arith))

pub loop-p-preserved : goal.loop-p-preserved
loop-p-preserved c = let w = c.loop-p in (omega arith, omega (arith, sum_more (at c.args.row) w.p))

pub returns : goal.returns
returns c = let w = c.loop-p in let q : w.p ≡ c.args.n = omega arith in rw (← q) w.invariant.1
