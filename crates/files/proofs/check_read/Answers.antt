-- `files::check_read` meets its contract.
use Rattle.scan.proofs.Basics.{sym, ◌∙◌}
use Rattle.refusal.proofs.Verdicts.{passed_on}
use Rattle.files.proofs.Replies.{net_tail, net_refused, sheet_tail, no_tail}
use Rattle.files.proofs.check_read.Goals as goal

pub returns-then-tails : goal.returns-then-tails
returns-then-tails c = net_tail _ _ _ _ c.if-tails.true

pub returns-in_err-check : goal.returns-in_err-check
returns-in_err-check c = passed_on _ c.from_residual.ensures.1 ∙ net_refused _ _ _ _ c.if-tails.false _ (sym c.check.ensures ∙ c.in_err-check.was)

pub returns-then-tails-2 : goal.returns-then-tails-2
returns-then-tails-2 c = sheet_tail _ _ _ _ c.if-tails.false c.if-tails-2.true (sym c.check.ensures ∙ c.in_ok-check.was)

pub returns : goal.returns
returns c = c.check-2.ensures ∙ no_tail _ _ _ _ c.if-tails.false c.if-tails-2.false
