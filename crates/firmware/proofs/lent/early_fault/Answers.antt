-- `firmware::lent::early_fault` meets its contract.
use Rattle.scan.proofs.Basics.{rules, ◌∙◌}
use Rattle.firmware.proofs.Early.{early-small, early-net, early-sheet, early-record, early-whole}
use Rattle.firmware.proofs.lent.early_fault.Goals.{then-net-ne0-via-then-net-ne0, then-net-ne0-via-else-net-ne0+then-sheet-ne0, then-net-ne0-via-else-net-ne0+else-sheet-ne0+then-firings-ne0}
use Rattle.firmware.proofs.lent.early_fault.Goals as goal

pub returns-then-lent-lt-SCRATCH_BYTES : goal.returns-then-lent-lt-SCRATCH_BYTES
returns-then-lent-lt-SCRATCH_BYTES c = c.refuse.ensures ∙ early-small _ _ _ _ c.if-lent-lt-SCRATCH_BYTES.true

pub returns-then-net-ne0 : goal.returns-then-net-ne0
returns-then-net-ne0 c =
    let l = c.if-lent-lt-SCRATCH_BYTES.false in
    let e = c.refuse-then-net-ne0.ensures in
    elim c.then-net-ne0.branch [
      | then-net-ne0-via-then-net-ne0 w ↦ e ∙ early-net _ _ _ _ l w.if-net-ne0.true
      | then-net-ne0-via-else-net-ne0+then-sheet-ne0 w ↦ e ∙ early-sheet _ _ _ _ l w.if-net-ne0.false w.if-sheet-ne0.true
      | then-net-ne0-via-else-net-ne0+else-sheet-ne0+then-firings-ne0 w ↦ e ∙ early-record _ _ _ _ l w.if-net-ne0.false w.if-sheet-ne0.false w.if-firings-ne0.true
    ]

pub returns : goal.returns
returns c = search (early-whole, rules)
