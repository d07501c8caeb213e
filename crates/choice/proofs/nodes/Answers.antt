-- `choice::nodes` meets its contract: 32 is no transition, so that no source is removed.
use Rattle.scan.proofs.Basics.{◌∙◌}
use Rattle.choice.proofs.Right.{whole-nodes}
use Rattle.choice.proofs.nodes.Goals as goal

pub returns : goal.returns
returns c = c.task_nodes.ensures ∙ whole-nodes _ _
