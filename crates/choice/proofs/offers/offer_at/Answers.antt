-- `choice::offers::offer_at` meets its contract.
use Rattle.scan.proofs.Basics.{◌∙◌}
use Rattle.choice.proofs.offers.offer_at.Goals as goal

pub returns : goal.returns
returns c = c.offered.ensures ∙ rw c.arc_entries.ensures
