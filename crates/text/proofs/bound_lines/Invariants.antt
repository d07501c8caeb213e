-- `text::bound_lines` meets its contract: when the counter is p the first p lines are put.
use Rattle.text.specs.Buffer.{Put}
use Rattle.text.specs.Lines.{joined, bound_line_of}
use Rattle.text.proofs.bound_lines.Given as goal

abbrev pub invariant-loop-p : goal.invariant-loop-p
invariant-loop-p l = Put l.initial.out l.at (joined (bound_line_of l.bounds) l.p) l.next l.out
