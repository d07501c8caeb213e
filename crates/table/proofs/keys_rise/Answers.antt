use Rattle.scan.proofs.Basics.{◌+◌, ◌-◌, arith, ◌≡◌, refl, sym, ◌∙◌}
use Rattle.scan.proofs.Tests.{true-false, by_less}
use Rattle.table.specs.Table.{key_at}
use Rattle.table.proofs.keys_rise.Goals as goal
use Rattle.table.proofs.keys_rise.Goals.{then-words-offset-2, else-words-offset-2}

pub loop-i-init : goal.loop-i-init
loop-i-init c = (omega arith, (λ h j l. absurd (omega arith), λ h. refl))

pub loop-i-preserved : goal.loop-i-preserved
unfolding key_at
loop-i-preserved c =
    let o = c.args.offset in
    let i = c.loop-i.i in
    let (m, (rises, only)) = c.loop-i.invariant in (
      omega arith,
      elim c.if-words-offset-2.branch [
        | then-words-offset-2 w ↦ (
          λ h. true-false _ h w.rise-is,
          λ f.
              let e : o + i - 1 ≡ o + (i - 1) = omega arith in
              let q : o + i ≡ o + (i - 1 + 1) = omega arith in
              let low = rw (e, q) at w.if-words-offset-2.true in
              absurd (omega (arith, f (i - 1) (omega arith))),
        )
        | else-words-offset-2 w ↦ (
          λ h j l. by_less (j + 1) i (rises (sym w.rise-is ∙ h) j) (λ m.
              let e : o + i - 1 ≡ o + j = omega arith in
              let q : o + i ≡ o + (j + 1) = omega arith in
              rw (e, q) at w.if-words-offset-2.false),
          λ f. w.rise-is ∙ only (λ j m. f j (omega arith)),
        )
      ],
    )

pub returns : goal.returns
returns c =
    let (m, (rises, only)) = c.loop-i.invariant in
    (λ h. (omega arith, record { above = λ i l. rises h i (omega arith) }), λ (l, r). only (λ j m. r.above j (omega arith)))
