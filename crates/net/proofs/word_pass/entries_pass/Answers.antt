-- `net::word_pass::entries_pass` meets its contract: what it has found of keys and weights is what 3 and 4 ask.
use Rattle.scan.proofs.Basics.{arith}
use Rattle.scan.proofs.First.{first-empty}
use Rattle.net.specs.Net.{weight_count}
use Rattle.net.proofs.Pass.{all_pass}
use Rattle.net.proofs.word_pass.entries_pass.Goals as goal

pub returns-then-entries-eq0 : goal.returns-then-entries-eq0
unfolding weight_count
returns-then-entries-eq0 c h = first-empty _ _ (λ i l. absurd (omega (arith, c.if-entries-eq0.true)))

pub returns-then-keys_rise : goal.returns-then-keys_rise
unfolding weight_count
returns-then-keys_rise c h =
    let e = c.requires in
    all_pass (c.keys_rise.ensures.0 c.if-keys_rise.true).1 (omega (arith, c.if-limit-net.false)) (c.weights_pass.ensures h)
