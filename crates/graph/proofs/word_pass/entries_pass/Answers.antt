-- `graph::word_pass::entries_pass` meets its contract: what it has found of keys and values is what 8 and 9 ask.
use Rattle.scan.proofs.Basics.{arith}
use Rattle.scan.proofs.First.{first-empty}
use Rattle.graph.proofs.Pass.{ends-within, arcs-pass, all_pass}
use Rattle.graph.proofs.word_pass.entries_pass.Goals as goal

pub returns-then-entries-eq0 : goal.returns-then-entries-eq0
returns-then-entries-eq0 c h = first-empty _ _ (λ i l. absurd (omega (arith, c.if-entries-eq0.true)))

pub values_lie-requires : goal.values_lie-requires
values_lie-requires c =
    ends-within c.args.sheet.shape (c.keys_rise.ensures.0 c.if-not-keys_rise.false).1 _ c.lower_bound-end.ensures

pub returns-then-not-counts : goal.returns-then-not-counts
returns-then-not-counts c h =
    arcs-pass c.args.sheet.shape (c.keys_rise.ensures.0 c.if-not-keys_rise.false).1 _ c.lower_bound-end.ensures (c.values_lie.ensures (c.if-not-values_lie.false))
    _ (omega (arith, c.if-limit-sheet.false)) c.args.counts (c.if-not-counts.true)

pub returns : goal.returns
returns c h =
    all_pass c.args.sheet.shape (c.keys_rise.ensures.0 c.if-not-keys_rise.false).1 _ c.lower_bound-end.ensures (c.values_lie.ensures (c.if-not-values_lie.false))
    _ (omega (arith, c.if-limit-sheet.false)) c.args.counts (c.if-not-counts.false) (c.values_lie-2.ensures h)
