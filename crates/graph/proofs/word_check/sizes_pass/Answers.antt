-- `graph::word_check::sizes_pass` meets its contract.
use Rattle.scan.proofs.Tests.{le-leb, lt-leb}
use Rattle.sequential.specs.Check.{sizes_pass}
use Rattle.graph.proofs.word_check.sizes_pass.Goals as goal

pub returns-then-nodes-lt1 : goal.returns-then-nodes-lt1
unfolding sizes_pass
returns-then-nodes-lt1 c = simp (lt-leb _ _ c.if-nodes-lt1.true)

pub returns-then-nodes-gt-NODES : goal.returns-then-nodes-gt-NODES
unfolding sizes_pass
returns-then-nodes-gt-NODES c = simp (le-leb _ _ c.if-nodes-lt1.false, lt-leb _ _ c.if-nodes-gt-NODES.true)

pub returns : goal.returns
unfolding sizes_pass
returns c = simp (le-leb _ _ c.if-nodes-lt1.false, le-leb _ _ c.if-nodes-gt-NODES.false)
