use Rattle.scan.proofs.Basics.{arith, rules}
use Rattle.trim.proofs.Reading.{entry_kept_lem, entry-dropped}
use Rattle.trim.proofs.Writing.{written_none, written-hit, written-miss, written_all}
use Rattle.trim.proofs.writer.write_sheet.Goals as goal
use Rattle.trim.proofs.writer.write_sheet.Goals.{then-cell_of-gt0, else-cell_of-gt0}

pub loop-i-init : goal.loop-i-init
loop-i-init c = (omega arith, written_none _ _ _ _)

pub new_key-key-requires-clause-kept_entry : goal.new_key-key-requires-clause-kept_entry
new_key-key-requires-clause-kept_entry c = record { entry = c.loop-i-test.true; kept = entry_kept_lem _ _ _ c.cell_of.ensures c.if-cell_of-gt0.true }

pub new_value-value-requires-clause-kept_entry : goal.new_value-value-requires-clause-kept_entry
new_value-value-requires-clause-kept_entry c = record { entry = c.loop-i-test.true; kept = entry_kept_lem _ _ _ c.cell_of.ensures c.if-cell_of-gt0.true }

pub loop-i-preserved : goal.loop-i-preserved
loop-i-preserved c =
    let (m, w) = c.loop-i.invariant in
    let p = c.requires in
    elim c.if-cell_of-gt0.branch [
      | then-cell_of-gt0 b ↦ (
        omega arith,
        rw (b.out-is, b.done-is) (written-hit _ _ _ _ w p.new_nodes.new.readable p.counted (entry_kept_lem _ _ _ c.cell_of.ensures b.if-cell_of-gt0.true) (omega arith)
            b.new_key-key.ensures b.new_value-value.ensures b.put-then-cell_of-gt0.ensures.held b.put-then-cell_of-gt0-2.ensures.held),
      )
      | else-cell_of-gt0 b ↦ (omega arith, rw (b.out-is, b.done-is) (written-miss _ _ _ _ w (search (entry-dropped, rules))))
    ]

pub returns : goal.returns
returns c =
    let p = c.requires in
    written_all p.new_nodes.new.readable p.counted _ p.new_nodes.found_is (omega arith) (search rules) c.put-2.ensures.held c.loop-i.invariant.1
