-- `net::word_check::weight_fails` meets its contract.
use Rattle.scan.proofs.Tests.{eq-eqb, ne_eqb}
use Rattle.net.specs.Check.{weight_fails}
use Rattle.net.proofs.word_check.weight_fails.Goals as goal

pub returns-then-weight-eq0 : goal.returns-then-weight-eq0
returns-then-weight-eq0 c = unfold weight_fails in (simp (eq-eqb _ _ c.if-weight-eq0.true))

pub returns : goal.returns
returns c = unfold weight_fails in (simp (ne_eqb _ _ c.if-weight-eq0.false))
