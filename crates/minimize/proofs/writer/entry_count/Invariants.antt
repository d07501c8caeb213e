-- `minimize::writer::entry_count` meets its contract: when the counter is i the entries of the first i rows are counted.
use Rattle.scan.proofs.Basics.{◌+◌, ◌*◌, ◌≤◌, ◌≡◌, length}
use Rattle.automaton.specs.Quotient.{minimal}
use Rattle.sequential.specs.Petri.{petri_net}
use Rattle.sequential.specs.Words.{graph}
use Rattle.encoding.specs.Rows.{section_to}
use Rattle.encoding.specs.declared.Section.TheVariants.{ArcKeys, CountKeys}
use Rattle.minimize.proofs.writer.entry_count.Given as goal

abbrev pub invariant-loop-i : goal.invariant-loop-i
invariant-loop-i l =
    (l.entries ≡ length (section_to (petri_net l.net) (minimal (graph (petri_net l.net) l.sheet)) ArcKeys l.i) + length (section_to (petri_net l.net) (minimal (graph
    (petri_net l.net) l.sheet)) CountKeys l.i))
    × (l.entries ≤ 64 * l.i)
