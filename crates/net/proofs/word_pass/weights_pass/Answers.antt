use Rattle.scan.proofs.Basics.{arith, sym, ◌∙◌, below_more}
use Rattle.scan.proofs.Tests.{true-false}
use Rattle.table.specs.Table.{value_at}
use Rattle.net.specs.Net.{weight_count, entry_weight}
use Rattle.net.proofs.word_pass.weights_pass.Goals as goal
use Rattle.net.proofs.word_pass.weights_pass.Goals.{else-weight_fails, then-weight_fails}

pub loop-i-init : goal.loop-i-init
loop-i-init c = (omega arith, λ h. record { each = λ j l. absurd (omega arith) })

pub loop-i-preserved : goal.loop-i-preserved
unfolding entry_weight value_at weight_count
loop-i-preserved c =
    let w = c.loop-i in (
      omega arith,
      elim c.if-weight_fails.branch [
        | then-weight_fails u ↦ λ h. true-false _ h u.pass-is
        | else-weight_fails u ↦ λ h. record {
          each = below_more _ _ (w.invariant.1 (sym u.pass-is
              ∙ h)).each (sym c.weight_fails.ensures ∙ u.if-weight_fails.false);
        }
      ],
    )

pub returns : goal.returns
unfolding weight_count
returns c h = record { each = λ i l. (c.loop-i.invariant.1 h).each i (omega arith) }
