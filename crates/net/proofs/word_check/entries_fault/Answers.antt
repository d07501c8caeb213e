use Rattle.scan.proofs.Basics.{arith, ◌≡◌, refl, sym, ap, ◌∙◌, get_or}
use Rattle.scan.proofs.First.{first-none, first_more}
use Rattle.refusal.specs.Verdict.{verdict_of}
use Rattle.refusal.proofs.Verdicts.{answer-none, answer-first, handed}
use Rattle.net.specs.Net.{place_count, transition_count, weight_count, net_key_limit}
use Rattle.net.proofs.word_check.entries_fault.Goals as goal

pub entries_pass-requires : goal.entries_pass-requires
unfolding place_count transition_count net_key_limit
entries_pass-requires c = c.key_count-limit.ensures

pub returns-then-entries_pass : goal.returns-then-entries_pass
returns-then-entries_pass c = ap verdict_of (sym (c.entries_pass.ensures c.if-entries_pass.true))

pub loop-i-init : goal.loop-i-init
loop-i-init c = (omega arith, first-none _)

pub entry_fault-requires : goal.entry_fault-requires
unfolding place_count transition_count weight_count net_key_limit
entry_fault-requires c = record { within = omega arith; entries_are = refl; limit_is = c.key_count-limit.ensures }

pub returns-in_err-entry_fault : goal.returns-in_err-entry_fault
unfolding weight_count
returns-in_err-entry_fault c = handed c.from_residual.ensures.1 c.in_err-entry_fault.was ∙ (answer-first _ _ _ _ _ c.loop-i.invariant.1 c.entry_fault.ensures c.in_err-entry_fault.was (omega arith))

pub loop-i-preserved : goal.loop-i-preserved
loop-i-preserved c = (omega arith, first_more _ _ c.loop-i.invariant.1 (answer-none _ (sym c.entry_fault.ensures ∙ c.in_ok-entry_fault.was)))

pub returns : goal.returns
unfolding weight_count
returns c =
    let e : c.loop-i.i ≡ get_or c.args.net.words.now 2 0 = omega arith in
    ap verdict_of (sym (rw e at c.loop-i.invariant.1))
