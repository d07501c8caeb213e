-- `replay::checked` meets its contract.
use Rattle.scan.proofs.Basics.{sym, ◌∙◌}
use Rattle.refusal.proofs.Verdicts.{answer-none, passed_on}
use Rattle.judge.proofs.Judged.{accepted-readable}
use Rattle.replay.proofs.Logs.{log-holds}
use Rattle.replay.proofs.Done.{sheet-refused, log-refused, firings-judged}
use Rattle.replay.proofs.checked.Goals as goal

pub returns-in_err-verdict : goal.returns-in_err-verdict
returns-in_err-verdict c = rw (passed_on _ c.from_residual.ensures.1) (sheet-refused _ _ _ c.verdict.ensures c.in_err-verdict.was)

pub returns-in_err-log_fault : goal.returns-in_err-log_fault
returns-in_err-log_fault c =
    rw (passed_on _ c.from_residual-in_err-log_fault.ensures.1)
    (log-refused _ _ _ (sym c.verdict.ensures ∙ c.in_ok-verdict.was) c.log_fault.ensures c.in_err-log_fault.was)

pub followed-requires : goal.followed-requires
followed-requires c = record {
  arcs_readable = (accepted-readable _ _ (sym c.verdict.ensures ∙ c.in_ok-verdict.was)).arcs;
  log_holds = log-holds _ (answer-none _ (sym c.log_fault.ensures ∙ c.in_ok-log_fault.was));
}

pub returns : goal.returns
returns c =
    firings-judged _ _ _ (sym c.verdict.ensures ∙ c.in_ok-verdict.was) (answer-none _ (sym c.log_fault.ensures ∙ c.in_ok-log_fault.was)) c.followed.ensures
