-- `react::durations::shape_passes` meets its contract.
use Rattle.scan.proofs.Basics.{rules}
use Rattle.react.proofs.Lasting.{shape-no, shape-yes}
use Rattle.react.proofs.durations.shape_passes.Goals as goal

pub returns-then-words-transitions : goal.returns-then-words-transitions
returns-then-words-transitions c = shape-no _ _ c.if-words-transitions.true

pub returns : goal.returns
returns c = search (shape-yes, rules)
