-- `plainly::page::Page::takes_same` meets its contract.
use Rattle.std.proofs.Common.{rules}
use borrow.Author.Tests.{tests}
use Rattle.sequential.specs.Tests.{takes_same, takes_alike}
use Rattle.plainly.specs.Page.{net_on}
use Rattle.plainly.proofs.Ranges.{all-chain}
use Rattle.plainly.proofs.page.Page.takes_same.Goals as goal

pub returns : goal.returns
unfolding takes_same takes_alike
returns c = all-chain (takes_alike (net_on c.args.self.now) c.args.t c.args.u) _ _ _ _ _ c.all.ensures.ran c.places.ensures.is (λ x b q k. search (rules, tests))
