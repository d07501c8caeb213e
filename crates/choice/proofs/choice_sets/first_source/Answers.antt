use Rattle.scan.proofs.Basics.{arith, ◌≡◌, sym, ◌∙◌}
use Rattle.scan.proofs.Every.{any-none-yet, any-more}
use Rattle.scan.proofs.Least.{least-found, least-none}
use Rattle.choice.specs.Rows.{net_by_rows}
use Rattle.choice.specs.Choices.{first_source}
use Rattle.choice.proofs.Choices.{few-by-rows, source_first, drawing-first}
use Rattle.choice.proofs.choice_sets.first_source.Goals as goal

pub overflow_cast-transitions : goal.overflow_cast-transitions
overflow_cast-transitions c = omega (arith, c.transitions-transitions.ensures)

pub loop-t-init : goal.loop-t-init
unfolding net_by_rows
loop-t-init c = (omega arith, any-none-yet _, c.transitions-transitions.ensures)

pub overflow_cast-places : goal.overflow_cast-places
overflow_cast-places c = omega (arith, c.places-places.ensures)

pub bounds-firsts-t : goal.bounds-firsts-t
bounds-firsts-t c = omega (arith, c.loop-t.invariant.2, few-by-rows c.args.net.now)

pub returns-then-places-firsts : goal.returns-then-places-firsts
unfolding first_source
returns-then-places-firsts c =
    let below = rw c.loop-t.invariant.2 at c.loop-t-test.true in
    sym (least-found _ _ _ c.loop-t.invariant.1 (source_first _ _ c.places-places.ensures c.requires _ below c.if-places-firsts.true) below)

pub loop-t-preserved : goal.loop-t-preserved
loop-t-preserved c =
    let below = rw c.loop-t.invariant.2 at c.loop-t-test.true in (
      omega arith,
      any-more _ _ c.loop-t.invariant.1 (drawing-first _ _ c.places-places.ensures c.requires _ below (omega arith)),
      c.loop-t.invariant.2,
    )

pub returns : goal.returns
unfolding first_source
returns c =
    let l = c.loop-t.invariant in
    let e : c.loop-t.t ≡ c.transitions-transitions.result = omega arith in
    let q = e ∙ l.2 in
    l.2 ∙ sym (least-none _ _ (rw q at l.1))
