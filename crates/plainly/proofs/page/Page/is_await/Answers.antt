-- `plainly::page::Page::is_await` meets its contract.
use Rattle.std.proofs.Common.{rules}
use borrow.Author.Tests.{tests}
use Rattle.sequential.specs.Tests.{is_await, offers_as_source}
use Rattle.plainly.specs.Page.{net_on, graph_on}
use Rattle.plainly.proofs.Ranges.{all-chain}
use Rattle.plainly.proofs.page.Page.is_await.Goals as goal

pub returns : goal.returns
unfolding is_await offers_as_source
returns c = all-chain (offers_as_source (net_on c.args.self.now) (graph_on c.args.self.now) c.args.n) _ _ _ _ _ c.all.ensures.ran c.transitions.ensures.is (λ x b q k. search (rules, tests))
