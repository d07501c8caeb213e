-- `trim::numbers::ranks` meets its contract: when the counter is n the marked nodes below n are numbered.
use Rattle.reach.specs.Reach.{is_marked}
use Rattle.trim.specs.Tables.{Numbered}
use Rattle.trim.proofs.numbers.ranks.Given as goal

abbrev pub invariant-loop-n : goal.invariant-loop-n
invariant-loop-n l = Numbered (is_marked l.marks) l.n l.cells l.found
