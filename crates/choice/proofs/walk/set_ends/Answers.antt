use Rattle.scan.proofs.Basics.{arith, ◌≡◌}
use Rattle.choice.proofs.Whole.{no-ends, ends-later, ends_there}
use Rattle.choice.proofs.walk.set_ends.Goals as goal
use Rattle.choice.proofs.walk.set_ends.Goals.{then-c-lt-TRANSITIONS, else-c-lt-TRANSITIONS}

pub loop-t-init : goal.loop-t-init
loop-t-init c = (omega arith, no-ends)

pub loop-t-preserved : goal.loop-t-preserved
loop-t-preserved c = (
  omega arith,
  elim c.if-c-lt-TRANSITIONS.branch [
    | then-c-lt-TRANSITIONS w ↦ rw w.ends-is (ends_there c.loop-t.invariant.1 w.if-c-lt-TRANSITIONS.true)
    | else-c-lt-TRANSITIONS w ↦ rw w.ends-is (ends-later c.loop-t.invariant.1 w.if-c-lt-TRANSITIONS.false)
  ],
)

pub returns : goal.returns
returns c =
    let (l, b) = c.loop-t.invariant in
    let e : c.loop-t.t ≡ c.args.transitions = omega (arith, c.loop-t-test.false) in
    record { within = λ k. omega (arith, b.within k); beyond = λ u h m. b.beyond u (omega arith) m }
