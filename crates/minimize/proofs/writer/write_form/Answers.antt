-- `minimize::writer::write_form` meets its contract.
use Rattle.encoding.proofs.Sections.{words-written}
use Rattle.minimal.specs.Minimal.{minimal_form}
use Rattle.minimize.proofs.writer.write_form.Goals as goal

pub returns : goal.returns
unfolding minimal_form
returns c =
    let p = c.requires in
    words-written _ _ p.new_nodes.size _ p.counted.are c.put-next.ensures c.put-next-2.ensures c.write_section-next.ensures c.write_section-next-2.ensures
    c.write_section-next-3.ensures c.write_section.ensures
