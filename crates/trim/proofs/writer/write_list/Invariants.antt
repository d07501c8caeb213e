-- `trim::writer::write_list` meets its contract: when the counter is n the kept ones of the first n nodes are listed.
use Rattle.scan.specs.Scan.{passing}
use Rattle.sequential.specs.Petri.{petri_net}
use Rattle.sequential.specs.Words.{graph}
use Rattle.encoding.specs.Encoding.{gather}
use Rattle.encoding.specs.Rows.{Appended}
use Rattle.trimmed.specs.Trim.{is_kept}
use Rattle.trim.proofs.writer.write_list.Given as goal

abbrev pub invariant-loop-n : goal.invariant-loop-n
invariant-loop-n l = Appended l.initial.list 0 (gather (passing (is_kept (graph (petri_net l.net) l.sheet))) l.n) l.next l.list
