-- `table::run_place` meets its contract.
use Rattle.scan.proofs.Basics.{◌<◌, arith}
use Rattle.table.specs.Table.{key_at}
use Rattle.table.proofs.Walk.{place-low, place-told}
use Rattle.table.proofs.run_place.Goals as goal

pub returns-in_err-place : goal.returns-in_err-place
unfolding key_at
returns-in_err-place c =
    let a = c.args in
    let l : key_at a.words.now a.offset a.i < a.first = omega (arith, c.in_err-place.ensures) in
    rw c.from_residual.ensures (place-low _ _ _ _ _ l)

pub returns : goal.returns
unfolding key_at
returns c =
    let e = c.in_ok-place.ensures in
    rw c.then_some.ensures (place-told _ _ _ _ _ _ _ e.0 e.1 (omega (arith, c.min.ensures)))
