-- `net::weights::row_or_zeros` meets its contract.
use Rattle.std.proofs.lemmas.Result.{IfOk-at_ok}
use Rattle.scan.proofs.Basics.{arith, ◌≡◌, ap}
use Rattle.refusal.specs.Verdict.{verdict_alone}
use Rattle.net.specs.Net.{transition_count}
use Rattle.net.specs.Accessors.{row_or_zeros}
use Rattle.net.specs.declared.shaped.Shaped.{Shaped}
use Rattle.net.proofs.Accessors.{shaped-true, shaped-false}
use Rattle.net.proofs.weights.row_or_zeros.Goals as goal

pub returns-then-not-known : goal.returns-then-not-known
unfolding row_or_zeros
returns-then-not-known c = rw (c.if-not-known.true)

pub weights_in_row-requires : goal.weights_in_row-requires
unfolding transition_count
weights_in_row-requires c =
    let w = IfOk-at_ok (λ (s : Shaped). s.words.now ≡ c.args.net.now) c.in-Ok.is c.read.ensures.same in
    let k = rw w at c.in-Ok.net.known in
    let l = c.requires (c.if-not-known.false) in
    omega arith

pub returns-in-Ok : goal.returns-in-Ok
unfolding row_or_zeros
returns-in-Ok c =
    let w = IfOk-at_ok (λ (s : Shaped). s.words.now ≡ c.args.net.now) c.in-Ok.is c.read.ensures.same in
    rw (c.if-not-known.false, shaped-true _ c.read.ensures.told (ap verdict_alone c.in-Ok.is)) (rw w at c.weights_in_row.ensures)

pub returns-in-Err : goal.returns-in-Err
unfolding row_or_zeros
returns-in-Err c = rw (c.if-not-known.false, shaped-false _ c.read.ensures.told (ap verdict_alone c.in-Err.is))
