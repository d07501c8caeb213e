use Rattle.scan.proofs.Basics.{arith, ◌≡◌, refl, ◌∙◌, length, length-set}
use Rattle.scan.specs.Scan.{tabulate}
use Rattle.scan.proofs.Placed.{placed-none}
use Rattle.octets.specs.Words.{word_at, words_of}
use Rattle.octets.proofs.Decoding.{count_fits, front-more, decoded-is}
use Rattle.octets.proofs.decode.Goals as goal

pub loop-i-init : goal.loop-i-init
unfolding tabulate
loop-i-init c =
    let a = c.args in
    let f = count_fits (length a.out.now) a.bytes.now in
    (omega arith, omega arith, omega arith, c.measure-reading.ensures.0, placed-none _ 0, refl)

pub loop-i-preserved : goal.loop-i-preserved
unfolding word_at
loop-i-preserved c =
    let w = c.loop-i in
    let a = c.args in (
      omega arith,
      w.invariant.1,
      w.invariant.2,
      w.invariant.3,
      rw (w.invariant.4, c.word_from.ensures) (front-more (word_at a.bytes.now) w.i a.out.now),
      simp length-set w.invariant.5,
    )

pub returns : goal.returns
unfolding words_of
returns c =
    let w = c.loop-i in
    let m = c.measure-reading.ensures in
    let e : w.i ≡ c.measure-reading.result.words = omega arith in
    record { words = m.0; ragged = m.1; written = w.invariant.4 ∙ rw (e, w.invariant.3) (decoded-is _ _) }
