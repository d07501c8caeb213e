use Rattle.scan.proofs.Basics.{arith, ◌≡◌, sym, ◌∙◌}
use Rattle.scan.proofs.Tests.{not-true→false}
use Rattle.scan.proofs.Every.{any-none-yet, any-more}
use Rattle.scan.proofs.Least.{least-found, least-none}
use Rattle.automaton.specs.Equivalence.{in_class, leader_by}
use Rattle.choice.proofs.Choices.{few-by-rows, alike-told, first-told, sources-alike}
use Rattle.choice.proofs.choice_sets.least_alike.Goals as goal
use Rattle.choice.proofs.choice_sets.least_alike.Goals.{then-firsts-u+else-places-first+else-rows_equal, else-firsts-u}

pub bounds-firsts-t : goal.bounds-firsts-t
bounds-firsts-t c = omega (arith, c.requires.t_bound, few-by-rows c.args.net.now)

pub loop-u-init : goal.loop-u-init
loop-u-init c = (omega arith, any-none-yet _)

pub bounds-firsts-u : goal.bounds-firsts-u
bounds-firsts-u c = omega (arith, c.requires.t_bound, few-by-rows c.args.net.now)

pub overflow_cast-places : goal.overflow_cast-places
overflow_cast-places c = omega (arith, c.places-places.ensures)

-- two that draw on no place
pub returns-then-places-first : goal.returns-then-places-first
unfolding leader_by in_class
returns-then-places-first c =
    sym (least-found _ _ _ c.loop-u.invariant.1
    (sources-alike _ _ c.places-places.ensures c.requires.first_places _ _ (omega (arith, c.requires.t_bound)) c.requires.t_bound (omega (arith, c.if-firsts-u.true)) c.if-places-first.true)
    c.loop-u-test.true)

pub rows_equal-requires : goal.rows_equal-requires
rows_equal-requires c = omega (arith, c.places-places.ensures)

pub returns-then-rows_equal : goal.returns-then-rows_equal
unfolding leader_by in_class
returns-then-rows_equal c =
    sym (least-found _ _ _ c.loop-u.invariant.1
    (sym (c.rows_equal.ensures ∙ alike-told _ _ c.places-places.ensures _ _ _ _ c.taken_row.ensures c.taken_row-then-firsts-u.ensures)
    ∙ c.if-rows_equal.true)
    c.loop-u-test.true)

-- another first place: it does not take the same
pub loop-u-preserved : goal.loop-u-preserved
unfolding in_class
loop-u-preserved c = (
  omega arith,
  any-more _ _ c.loop-u.invariant.1
      (elim c.if-firsts-u.branch [
        | then-firsts-u+else-places-first+else-rows_equal w ↦
            let told = alike-told _ _ c.places-places.ensures _ _ _ _ w.taken_row.ensures w.taken_row-then-firsts-u.ensures in
            sym (w.rows_equal.ensures ∙ told) ∙ w.if-rows_equal.false
        | else-firsts-u w ↦
            let told = first-told _ _ c.places-places.ensures c.requires.first_places _ _ (omega (arith, c.requires.t_bound)) c.requires.t_bound in
            not-true→false _ (λ h. w.if-firsts-u.false (told h))
      ]),
)

pub returns : goal.returns
unfolding leader_by
returns c = let e : c.loop-u.u ≡ c.args.t = omega arith in sym (least-none _ _ (rw e at c.loop-u.invariant.1))
