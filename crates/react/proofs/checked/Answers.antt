-- `react::checked` meets its contract.
use Rattle.refusal.proofs.Verdicts.{handed}
use Rattle.scan.proofs.Basics.{arith, rules, sym, ◌∙◌}
use Rattle.judge.proofs.Judged.{accepted-readable}
use Rattle.react.proofs.Done.{sheet-refused, durations-told}
use Rattle.react.proofs.checked.Goals as goal

pub returns-in_err-verdict : goal.returns-in_err-verdict
returns-in_err-verdict c = rw (handed c.from_residual.ensures.1 c.in_err-verdict.was) (search (sheet-refused, rules))

pub durations_fault-requires : goal.durations_fault-requires
durations_fault-requires c = omega (arith, (accepted-readable _ _ (sym c.verdict.ensures ∙ c.in_ok-verdict.was)).arcs.sizes.few_transitions)

pub returns : goal.returns
returns c = durations-told _ _ _ (sym c.verdict.ensures ∙ c.in_ok-verdict.was) c.transitions.ensures c.durations_fault.ensures
