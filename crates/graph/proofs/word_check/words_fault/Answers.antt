-- `graph::word_check::words_fault` meets its contract: the shape, then the entries.
use Rattle.std.proofs.lemmas.Result.{IfOk-at_ok}
use Rattle.scan.proofs.Basics.{arith, ◌≡◌, sym, ap, ◌∙◌}
use Rattle.refusal.specs.Verdict.{verdict_alone}
use Rattle.refusal.proofs.Verdicts.{answer-left, verdict-next, passed_on}
use Rattle.sequential.specs.Words.{arc_keys, key_limit}
use Rattle.graph.proofs.Readable.{fault-by, sizes-known}
use Rattle.graph.specs.declared.shaped.Shaped.{Shaped}
use Rattle.graph.proofs.word_check.words_fault.Goals as goal

pub returns-in_err-shaped : goal.returns-in_err-shaped
returns-in_err-shaped c =
    let h = ap verdict_alone c.in_err-shaped.was in
    passed_on _ c.from_residual.ensures.1 ∙ sym h ∙ rw (fault-by c.args.counts) (answer-left _ _ _ _ c.read.ensures.told h)

pub overflow_mul-arcs : goal.overflow_mul-arcs
overflow_mul-arcs c = let k = sizes-known c.requires c.in_ok-shaped.shaped.shape in rw c.transitions-transitions.ensures (omega arith)

pub overflow_add-limit : goal.overflow_add-limit
overflow_add-limit c = omega (arith, sizes-known c.requires c.in_ok-shaped.shaped.shape)

pub overflow_mul-limit : goal.overflow_mul-limit
overflow_mul-limit c = let k = sizes-known c.requires c.in_ok-shaped.shaped.shape in rw (c.transitions-transitions.ensures, c.places.ensures) (omega arith)

pub returns : goal.returns
unfolding arc_keys key_limit
returns c =
    let w = IfOk-at_ok (λ (s : Shaped). s.words.now ≡ c.args.sheet.now) c.in_ok-shaped.was c.read.ensures.same in
    rw (fault-by c.args.counts, ← c.transitions-transitions.ensures, ← c.places.ensures)
    (rw w at c.entries_fault.ensures ∙ sym (verdict-next _ _ (sym c.read.ensures.told ∙ ap verdict_alone c.in_ok-shaped.was)))
