-- `refusal::Refusal::plain` meets its contract.
use Rattle.refusal.proofs.Verdicts.{refusal-parts}
use Rattle.refusal.proofs.Refusal.plain.Goals as goal

pub returns : goal.returns
returns c = rw (c.number.ensures, c.index.ensures, c.kind.ensures) (refusal-parts c.args.self)
