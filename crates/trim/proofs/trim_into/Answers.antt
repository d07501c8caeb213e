-- `trim::trim_into` meets its contract.
use Rattle.refusal.proofs.Verdicts.{passed_on}
use Rattle.scan.proofs.Basics.{rules, refl, sym, ◌∙◌}
use Rattle.graph.proofs.Readable.{reply-readable}
use Rattle.lending.proofs.Laws.{refused-words}
use Rattle.trim.proofs.trim_into.Goals as goal

pub returns-in_err-check : goal.returns-in_err-check
returns-in_err-check c = rw (passed_on _ c.from_residual.ensures.1) (refused-words (sym (search rules) ∙ c.in_err-check.was) refl)

pub kept-new-requires : goal.kept-new-requires
kept-new-requires c = reply-readable _ _ (sym (search rules) ∙ c.in_ok-check.was)
