-- `mend::arcs::arc_at` meets its contract.
use Rattle.mend.proofs.Reading.{arc-read}
use Rattle.scan.proofs.Basics.{arith, rules}
use Rattle.mend.proofs.arcs.arc_at.Goals as goal

pub overflow_cast-result : goal.overflow_cast-result
overflow_cast-result c =
    let r = c.requires.arcs_readable in let a = c.requires.arc in
    let k = arc-read r a c.transitions-transitions.ensures in
    omega arith

pub overflow_cast-result-2 : goal.overflow_cast-result-2
overflow_cast-result-2 c =
    let r = c.requires.arcs_readable in let a = c.requires.arc in
    let k = arc-read r a c.transitions-transitions.ensures in
    omega arith

pub returns : goal.returns
returns c = search (arc-read, rules)
