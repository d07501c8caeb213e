use Rattle.scan.proofs.Basics.{arith, rules, ◌∙◌, length-set}
use Rattle.scan.proofs.Tabulate.{stored_more}
use Rattle.choice.specs.Rows.{net_by_rows}
use Rattle.choice.proofs.choice_sets.first_places.Goals as goal

pub loop-i-init : goal.loop-i-init
loop-i-init c = (omega arith, omega (arith, c.transitions-transitions.ensures), search rules, λ t l. absurd (omega arith))

pub first_weight-first-requires : goal.first_weight-first-requires
first_weight-first-requires c = omega (arith, c.places-places.ensures)

pub loop-i-preserved : goal.loop-i-preserved
loop-i-preserved c =
    let l = c.loop-i in
    let (a, b, d, f) = l.invariant in
    (omega arith, b, simp length-set d, stored_more _ l.firsts l.i _ f (omega arith) (c.first_weight-first.ensures ∙ rw c.taken_row.ensures))

pub returns : goal.returns
unfolding net_by_rows
returns c =
    let l = c.loop-i.invariant in
    record { first = λ t m. l.3 t (omega (arith, c.transitions-transitions.ensures)) ∙ rw c.places-places.ensures }
