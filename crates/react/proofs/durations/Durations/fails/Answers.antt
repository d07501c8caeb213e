-- `react::durations::Durations::fails` meets its contract.
use Rattle.react.proofs.Lasting.{fails-order, fails-long}
use Rattle.react.proofs.durations.Durations.fails.Goals as goal

pub returns-then-late-lasts : goal.returns-then-late-lasts
returns-then-late-lasts c = fails-order _ _ c.lasts-late.ensures c.lasts.ensures c.if-late-lasts.true

pub returns : goal.returns
returns c = fails-long _ _ c.lasts-late.ensures c.lasts.ensures c.if-late-lasts.false
