-- `plainly::page::Page::first_offered` meets its contract.
use Rattle.std.proofs.Common.{rules}
use borrow.Author.Tests.{tests}
use Rattle.sequential.specs.Tests.{offers, offers_some, first_offered}
use Rattle.plainly.specs.Page.{net_on, graph_on}
use Rattle.plainly.proofs.Ranges.{find-chain}
use Rattle.plainly.proofs.page.Page.first_offered.Goals as goal

pub returns : goal.returns
unfolding offers_some first_offered
returns c = find-chain (offers (net_on c.args.self.now) (graph_on c.args.self.now) c.args.n) _ _ _ _ _ c.find.ensures.ran c.transitions.ensures.is (λ x b q k. search (rules, tests))
