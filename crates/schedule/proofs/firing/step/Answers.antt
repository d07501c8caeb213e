-- `schedule::firing::step` meets its contract.
use Rattle.scan.proofs.Basics.{arith, rules, sym, ◌∙◌}
use Rattle.refusal.proofs.Verdicts.{answer-none}
use Rattle.graph.proofs.LookUp.{arc-found, arc-missing}
use Rattle.judge.proofs.Judged.{accepted-readable}
use Rattle.schedule.proofs.Walks.{entry-fits, walker-refused, not-offered, follows_on}
use Rattle.schedule.proofs.firing.step.Goals as goal

pub walker_fault-requires : goal.walker_fault-requires
walker_fault-requires c = search (accepted-readable, rules)

pub returns-in-Err : goal.returns-in-Err
returns-in-Err c = search (walker-refused, rules)

pub overflow_cast-result : goal.overflow_cast-result
overflow_cast-result c =
    let a = c.requires in
    let r = (accepted-readable _ _ a).arcs in
    omega (arith, entry-fits _ _ _ _ r.holds _ (arc-found _ _ r _ _ _ (sym c.arc.ensures ∙ c.in-Some.is)))

pub returns-in-None : goal.returns-in-None
returns-in-None c =
    let a = c.requires in
    let f = answer-none _ (sym c.walker_fault.ensures ∙ c.in_default.is) in
    not-offered _ _ _ _ a f (arc-missing _ _ (accepted-readable _ _ a).arcs _ _ (sym c.arc.ensures ∙ c.in-None.is))

pub returns-in-Some : goal.returns-in-Some
returns-in-Some c =
    let a = c.requires in
    let f = answer-none _ (sym c.walker_fault.ensures ∙ c.in_default.is) in
    let e = arc-found _ _ (accepted-readable _ _ a).arcs _ _ _ (sym c.arc.ensures ∙ c.in-Some.is) in
    follows_on _ _ _ _ a f _ _ _ e c.value-m.ensures c.marking-counts.ensures
