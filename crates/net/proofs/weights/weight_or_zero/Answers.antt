-- `net::weights::weight_or_zero` meets its contract.
use Rattle.std.proofs.lemmas.Result.{IfOk-at_ok}
use Rattle.scan.proofs.Basics.{arith, ◌≡◌, ap}
use Rattle.refusal.specs.Verdict.{verdict_alone}
use Rattle.net.specs.Net.{transition_count}
use Rattle.net.specs.Accessors.{weight_or_zero}
use Rattle.net.specs.declared.shaped.Shaped.{Shaped}
use Rattle.net.proofs.Accessors.{shaped-true, shaped-false}
use Rattle.net.proofs.weights.weight_or_zero.Goals as goal

pub returns-then-not-known : goal.returns-then-not-known
unfolding weight_or_zero
returns-then-not-known c = rw (c.if-not-known.true)

pub weight_in_row-requires : goal.weight_in_row-requires
unfolding transition_count
weight_in_row-requires c =
    let w = IfOk-at_ok (λ (s : Shaped). s.words.now ≡ c.args.net.now) c.in-Ok.is c.read.ensures.same in
    let k = rw w at c.in-Ok.net.known in
    let l = c.requires (c.if-not-known.false) in
    omega arith

pub returns-in-Ok : goal.returns-in-Ok
unfolding weight_or_zero
returns-in-Ok c =
    let w = IfOk-at_ok (λ (s : Shaped). s.words.now ≡ c.args.net.now) c.in-Ok.is c.read.ensures.same in
    rw (c.if-not-known.false, shaped-true _ c.read.ensures.told (ap verdict_alone c.in-Ok.is)) (rw w at c.weight_in_row.ensures)

pub returns-in-Err : goal.returns-in-Err
unfolding weight_or_zero
returns-in-Err c = rw (c.if-not-known.false, shaped-false _ c.read.ensures.told (ap verdict_alone c.in-Err.is))
