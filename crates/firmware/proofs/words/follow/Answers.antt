-- `firmware::words::follow` meets its contract.
use Rattle.scan.proofs.Basics.{◌/◌, arith, ◌≡◌, sym, ap, ◌∙◌, length}
use Rattle.scan.proofs.First.{first-none, first_more, first-hit}
use Rattle.refusal.specs.Verdict.{verdict_of}
use Rattle.schedule.specs.Firing.{run_fault}
use Rattle.graph.proofs.LookUp.{arc-found, arc-missing}
use Rattle.schedule.proofs.Walks.{target-node, entry-fits, after_none, after_more, entry-none, entry_more, firing-passes, firing-fails}
use Rattle.schedule.specs.declared.Ran.{Ran}
use Rattle.octets.specs.Words.{all_words}
use Rattle.octets.proofs.Decoding.{words_count}
use Rattle.firmware.proofs.words.follow.Goals as goal

pub loop-i-init : goal.loop-i-init
loop-i-init c = (omega arith, after_none _ _ _, omega arith, first-none _, entry-none _ _ _)

pub returns-in_default : goal.returns-in_default
unfolding run_fault
returns-in_default c =
    let q = c.word-t.ensures in
    let e = rw q at (arc-missing _ _ c.requires.arcs _ _ (sym c.arc.ensures ∙ c.in_default.is)) in
    let m = rw (← (words_count c.args.firings.now)) at c.loop-i-test.true in
    record { reply = ap verdict_of (sym (first-hit _ _ _ c.loop-i.invariant.3 (firing-fails _ _ _ _ _ c.loop-i.invariant.1 e) _ m)); ran = λ r h. cc }

pub overflow_cast-entry : goal.overflow_cast-entry
overflow_cast-entry c =
    let r = c.requires.arcs in
    omega (arith, entry-fits _ _ _ _ r.holds _ (arc-found _ _ r _ _ _ (sym c.arc.ensures ∙ c.in-Some.is)))

pub loop-i-preserved : goal.loop-i-preserved
loop-i-preserved c =
    let r = c.requires.arcs in
    let q = c.word-t.ensures in
    let e = rw q at (arc-found _ _ r _ _ _ (sym c.arc.ensures ∙ c.in-Some.is)) in (
      omega arith,
      c.value-node.ensures ∙ after_more _ _ _ _ _ c.loop-i.invariant.1 _ e,
      rw c.value-node.ensures (target-node _ _ _ _ r.sizes.some_transition r.holds c.loop-i.invariant.2 _ e),
      first_more _ _ c.loop-i.invariant.3 (firing-passes _ _ _ _ _ c.loop-i.invariant.1 _ e),
      entry_more _ _ _ _ _ c.loop-i.invariant.1 _ e,
    )

pub returns : goal.returns
unfolding run_fault
returns c =
    let firings = c.args.firings.now in
    let q : c.loop-i.i ≡ length (all_words firings) = omega (arith, words_count firings) in
    record {
      reply = ap verdict_of (sym (rw q at c.loop-i.invariant.3));
      ran = λ r h.
          let same : ◌≡◌ {A = Ran} (record { fired = length firings / 4; node = c.loop-i.node; entry = c.loop-i.entry }) r = cc h in
          rw (← same, ← q, ← c.loop-i.invariant.1, ← c.loop-i.invariant.4, q, words_count firings);
    }
