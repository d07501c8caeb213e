use Rattle.scan.proofs.Basics.{arith, rules, refl, ◌∙◌}
use Rattle.encoding.specs.declared.Section.TheVariants.{ArcKeys, CountKeys}
use Rattle.encoding.proofs.Sections.{entries_none, entries-all}
use Rattle.minimize.proofs.NewRows.{row-few}
use Rattle.minimize.proofs.Writing.{new_row, rows-count}
use Rattle.minimize.proofs.writer.entry_count.Goals as goal

pub loop-i-init : goal.loop-i-init
loop-i-init c = search (entries_none, rules)

pub loop-i-preserved : goal.loop-i-preserved
loop-i-preserved c =
    let h = c.requires in
    let r = new_row h c.loop-i-test.true refl in
    let a = rows-count h ArcKeys r in
    let b = rows-count h CountKeys r in
    (omega (arith, a, b), omega (arith, row-few r ArcKeys, row-few r CountKeys))

pub returns : goal.returns
returns c =
    let h = c.requires in
    let (is, most) = c.loop-i.invariant in
    record { are = is ∙ entries-all _ _ h.size _ (omega arith); few = omega (arith, h.few) }

pub overflow_add-entries : goal.overflow_add-entries
overflow_add-entries c =
    let r = new_row c.requires c.loop-i-test.true refl in
    omega (arith, row-few r ArcKeys, row-few r CountKeys)

pub overflow_add-entries-in-loop-i : goal.overflow_add-entries-in-loop-i
overflow_add-entries-in-loop-i c =
    let r = new_row c.requires c.loop-i-test.true refl in
    omega (arith, row-few r ArcKeys, row-few r CountKeys)
