use Rattle.scan.proofs.Basics.{◌*◌, ◌≤◌, arith, rules, length-set}
use native.Mathlib.Nat.{mul-le-mul}
use Rattle.scan.proofs.Tabulate.{tabulate-is, stored_more}
use Rattle.replay.specs.Tally.{added}
use Rattle.replay.proofs.tally.add_row.Goals as goal

pub loop-p-init : goal.loop-p-init
loop-p-init c = (omega arith, search rules, λ j l. absurd (omega arith))

pub overflow_mul-next : goal.overflow_mul-next
overflow_mul-next c =
    let few : c.from.result * c.from-in-loop-p.result ≤ 4096 * 4294967295 =
    mul-le-mul (let t : c.from.result ≤ 4096 = omega arith in t) (let w : c.from-in-loop-p.result ≤ 4294967295 = omega arith in w) in
    let k = few in omega arith

pub overflow_add-next : goal.overflow_add-next
overflow_add-next c =
    let few : c.from.result * c.from-in-loop-p.result ≤ 4096 * 4294967295 =
    mul-le-mul (let t : c.from.result ≤ 4096 = omega arith in t) (let w : c.from-in-loop-p.result ≤ 4294967295 = omega arith in w) in
    omega (arith, few, c.requires.at_most c.loop-p.p (omega arith))

pub loop-p-preserved : goal.loop-p-preserved
unfolding added
loop-p-preserved c =
    let a = c.args in
    let w = c.loop-p in (
      omega arith,
      simp length-set w.invariant.1,
      stored_more (added a.sums a.row a.times) w.next w.p _ w.invariant.2 (omega arith) (rw (c.from.ensures, c.from-in-loop-p.ensures)),
    )

pub returns : goal.returns
returns c = tabulate-is _ 0 32 _ c.loop-p.invariant.1 (λ p l. c.loop-p.invariant.2 p (omega arith))
