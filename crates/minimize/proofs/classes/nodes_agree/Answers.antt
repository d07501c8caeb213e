-- `minimize::classes::nodes_agree` meets its contract.
use Rattle.scan.proofs.Basics.{arith, rules, ◌∙◌}
use Rattle.minimize.proofs.NodeRows.{rows, walked}
use Rattle.minimize.proofs.Level.{end_low, even-rows, even-walked}
use Rattle.minimize.proofs.classes.nodes_agree.Goals as goal

pub overflow_sub-end : goal.overflow_sub-end
overflow_sub-end c = omega (arith, end_low c.requires c.if-level.true)

pub targets_agree-requires : goal.targets_agree-requires
targets_agree-requires c = search (even-rows, rules)

pub returns-then-level : goal.returns-then-level
returns-then-level c = c.targets_agree.ensures ∙ even-walked c.requires c.if-level.true

pub rows_agree-requires : goal.rows_agree-requires
rows_agree-requires c =
    let p = c.requires in
    let h = p.of in
    rw (c.row_width-width.ensures, c.first_key-a.ensures, c.first_key-b.ensures) (rows h.readable p.long p.left
    p.right (h.start _ p.left) (h.start _ p.right))

pub returns : goal.returns
returns c =
    let p = c.requires in
    c.rows_agree.ensures ∙ rw (c.row_width-width.ensures, c.first_key-a.ensures, c.first_key-b.ensures)
    (walked p.of.readable _ _ p.left p.right)
