use Rattle.scan.proofs.Basics.{rules}
use Rattle.text.specs.Lines.{bound_line_of, bound_lines}
use Rattle.text.proofs.Put.{same_length}
use Rattle.text.proofs.Joined.{none-joined, more-joined, all-joined}
use Rattle.text.proofs.bound_lines.Goals as goal

pub loop-p-init : goal.loop-p-init
loop-p-init c = none-joined _ _ _

pub loop-p-preserved : goal.loop-p-preserved
unfolding bound_line_of
loop-p-preserved c = search (more-joined, rules)

pub shape_of-out : goal.shape_of-out
shape_of-out c = same_length c.loop-p.invariant

pub returns : goal.returns
unfolding bound_lines
returns c = search (all-joined, rules)
