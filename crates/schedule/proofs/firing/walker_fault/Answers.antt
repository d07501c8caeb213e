use Rattle.scan.proofs.Basics.{◌<◌, arith, rules, ◌≡◌, sym, ap, ◌∙◌}
use Rattle.scan.proofs.First.{first-none, first_more}
use Rattle.refusal.specs.Verdict.{verdict_of}
use Rattle.graph.proofs.Readable.{known}
use Rattle.schedule.proofs.Walks.{no-such-node, held-at, count-right, astray-at, walker-right}
use Rattle.schedule.proofs.firing.walker_fault.Goals as goal

pub bounds-sheet-0 : goal.bounds-sheet-0
bounds-sheet-0 c = omega (arith, known _ _ c.requires)

pub returns-then-sheet-n : goal.returns-then-sheet-n
returns-then-sheet-n c = search (no-such-node, rules)

pub loop-p-init : goal.loop-p-init
loop-p-init c = (omega arith, first-none _)

pub returns-then-counts-p : goal.returns-then-counts-p
returns-then-counts-p c =
    let l : c.loop-p.p < 32 = omega arith in
    let n = c.if-sheet-n.false in
    let h = held-at _ _ c.requires _ n _ c.marking-held.ensures _ l in
    c.refuse-then-counts-p.ensures
    ∙ ap verdict_of (sym (astray-at _ _ c.args.walker n _ c.loop-p.invariant.1 l (λ e. c.if-counts-p.true (e ∙ sym h))))

pub loop-p-preserved : goal.loop-p-preserved
loop-p-preserved c =
    let l : c.loop-p.p < 32 = omega arith in
    let h = held-at _ _ c.requires _ c.if-sheet-n.false
    _ c.marking-held.ensures _ l in
    (omega arith, first_more _ _ c.loop-p.invariant.1 (count-right _ _ _ _ (c.if-counts-p.false ∙ h)))

pub returns : goal.returns
returns c =
    let e : c.loop-p.p ≡ 32 = omega arith in
    ap verdict_of (sym (walker-right _ _ c.args.walker c.if-sheet-n.false (rw e at c.loop-p.invariant.1)))
