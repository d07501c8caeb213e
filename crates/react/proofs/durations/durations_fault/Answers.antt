use Rattle.scan.proofs.Basics.{arith, ◌∙◌, sym, ap}
use Rattle.refusal.specs.Verdict.{verdict_of}
use Rattle.reaction.proofs.Durations.{shape↔, shape-refused, duration-refused, durations-accepted}
use Rattle.react.proofs.durations.durations_fault.Goals as goal

pub returns-then-not-shape_passes : goal.returns-then-not-shape_passes
returns-then-not-shape_passes c = c.refuse.ensures ∙ ap verdict_of (sym (shape-refused _ _ (sym c.shape_passes.ensures ∙ c.if-not-shape_passes.true)))

pub invariant_of-durations : goal.invariant_of-durations
invariant_of-durations c = record { shape = (shape↔ _ _).0 c.loop-t.invariant.shape }

pub returns-then-fails : goal.returns-then-fails
returns-then-fails c =
    let g = c.loop-t.invariant in
    c.refuse-then-fails.ensures ∙ ap verdict_of (sym (duration-refused _ _ g.shape _ c.loop-t-test.true g.below (sym c.fails.ensures ∙ c.if-fails.true)))

pub returns : goal.returns
returns c = let g = c.loop-t.invariant in ap verdict_of (sym (durations-accepted _ _ g.shape (λ u l. g.below u (omega arith))))
