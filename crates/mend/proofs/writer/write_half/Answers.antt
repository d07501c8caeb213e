-- `mend::writer::write_half` meets its contract.
use Rattle.graph.proofs.ArcCount.{arcs-within, arc-count-right}
use Rattle.encoding.proofs.Rows.{appended-more}
use Rattle.mend.specs.Writing.{half_of}
use Rattle.scan.proofs.Basics.{arith}
use Rattle.mend.proofs.writer.write_half.Goals as goal

pub copy-next-requires : goal.copy-next-requires
copy-next-requires c = omega (arith, arcs-within)

pub returns : goal.returns
unfolding half_of
returns c =
    rw (← arc-count-right _ _ c.requires.mendable.fitting.readable, ← c.arc_count-arcs.ensures)
    (appended-more c.copy-next.ensures c.write_part.ensures)
