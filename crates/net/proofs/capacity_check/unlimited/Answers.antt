-- `net::capacity_check::unlimited` meets its contract: where bisection ends past all entries no key lies in the row.
use Rattle.scan.proofs.Tests.{leb-true}
use Rattle.net.specs.Net.{place_count, transition_count, weight_count}
use Rattle.net.proofs.Overfull.{unlimited-told}
use Rattle.net.proofs.capacity_check.unlimited.Goals as goal

pub returns : goal.returns
unfolding place_count transition_count weight_count
returns c = λ h. unlimited-told c.requires _ c.lower_bound.ensures (leb-true _ _ h)
