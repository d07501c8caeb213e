-- `mend::measure::checked` meets its contract: each check is asked if those before it refuse nothing.
use Rattle.scan.proofs.Basics.{sym, ap, ◌∙◌}
use Rattle.refusal.specs.Verdict.{verdict_alone}
use Rattle.refusal.proofs.Verdicts.{passed_on, handed}
use Rattle.mend.proofs.Measuring.{words-refused, nodes-refused, paths-judged}
use Rattle.mend.proofs.measure.checked.Goals as goal

pub returns-in_err-check_arcs : goal.returns-in_err-check_arcs
returns-in_err-check_arcs c = handed c.from_residual.ensures.1 c.in_err-check_arcs.was ∙ words-refused _ _ c.check_arcs.ensures c.in_err-check_arcs.was

pub returns-in_err-awaits : goal.returns-in_err-awaits
returns-in_err-awaits c =
    passed_on _ c.from_residual-in_err-awaits.ensures.1 ∙ sym (ap verdict_alone c.in_err-awaits.was)
    ∙ nodes-refused _ _ (sym c.check_arcs.ensures ∙ c.in_ok-check_arcs.was) c.nodes.ensures (ap verdict_alone c.in_err-awaits.was)

pub returns : goal.returns
returns c =
    paths-judged _ _ (sym c.check_arcs.ensures ∙ c.in_ok-check_arcs.was) c.nodes.ensures c.in_ok-awaits.was c.paths.ensures
