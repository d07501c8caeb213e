use Rattle.scan.proofs.Basics.{arith, ◌≡◌, sym, ap, ◌∙◌}
use Rattle.scan.proofs.First.{first-none, first_more}
use Rattle.refusal.specs.Verdict.{verdict_of}
use Rattle.refusal.proofs.Verdicts.{answer-none, answer-first, handed}
use Rattle.sequential.specs.Words.{entry_count}
use Rattle.graph.proofs.word_check.entries_fault.Goals as goal

pub returns-then-entries_pass : goal.returns-then-entries_pass
returns-then-entries_pass c = ap verdict_of (sym (c.entries_pass.ensures c.if-entries_pass.true))

pub loop-i-init : goal.loop-i-init
loop-i-init c = (omega arith, first-none _)

pub returns-in_err-entry_fault : goal.returns-in_err-entry_fault
returns-in_err-entry_fault c =
    handed c.from_residual.ensures.1 c.in_err-entry_fault.was ∙
    (answer-first _ _ _ _ _ c.loop-i.invariant.1 c.entry_fault.ensures c.in_err-entry_fault.was c.loop-i-test.true)

pub loop-i-preserved : goal.loop-i-preserved
loop-i-preserved c = (omega arith, first_more _ _ c.loop-i.invariant.1 (answer-none _ (sym c.entry_fault.ensures ∙ c.in_ok-entry_fault.was)))

pub returns : goal.returns
returns c = let e : c.loop-i.i ≡ entry_count c.args.sheet.words.now = omega arith in ap verdict_of (sym (rw e at c.loop-i.invariant.1))
