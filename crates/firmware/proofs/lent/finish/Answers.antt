-- `firmware::lent::finish` meets its contract.
use Rattle.scan.proofs.Basics.{arith, ℕ, rules, ◌≡◌, ap, ◌∙◌, List, length}
use Rattle.octets.specs.Bytes.{bytes_over}
use Rattle.octets.proofs.Writing.{bytes-over}
use Rattle.firmware.proofs.lent.finish.Goals.{in-Ok, in-Err}
use Rattle.firmware.proofs.lent.finish.Goals as goal

pub returns : goal.returns
returns g c =
    let k : length c.plain.result ≡ 6 = search rules in (
      elim c.match-answer.branch [ in-Ok w ↦ rw w.in-Ok.is w.number-is | in-Err w ↦ rw w.in-Err.is (w.number-is ∙ w.number-number.ensures) ],
      c.clear.ensures,
      c.write_six.ensures ∙ bytes-over 8 _ _ (omega (arith, k)) ∙ ap (λ (plain : List ℕ). bytes_over 8 plain c.args.reply.now) c.plain.ensures,
    )
