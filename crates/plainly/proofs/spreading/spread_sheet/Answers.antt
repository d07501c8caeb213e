use Rattle.scan.proofs.Basics.{arith, ◌∙◌, get_or-set_other}
use Rattle.plainly.specs.Numbers.{cell_of}
use Rattle.scan.proofs.Tabulate.{stored_more}
use Rattle.plainly.proofs.spreading.spread_sheet.Goals as goal

pub loop-k-preserved : goal.loop-k-preserved
loop-k-preserved c =
    let (u, w) = c.loop-k.invariant in
    let grid = c.loop-k.grid in
    let k = c.loop-k.k in (
      stored_more (cell_of _ _) grid k _ u (omega arith) c.cell.ensures,
      λ j l. get_or-set_other grid k j _ 0 (λ e. omega arith) ∙ w j l,
    )

pub returns : goal.returns
returns c =
    let (u, w) = c.loop-k.invariant in
    record { spread = record { long = omega arith; cells = λ k l. u k (omega arith) }; front = record { same_length = omega arith; past = w } }
