-- `plainly::page::Page::shares_place` meets its contract.
use Rattle.std.proofs.Common.{rules}
use borrow.Author.Tests.{tests}
use Rattle.sequential.specs.Tests.{shares_place, both_draw}
use Rattle.plainly.specs.Page.{net_on}
use Rattle.plainly.proofs.Ranges.{any-chain}
use Rattle.plainly.proofs.page.Page.shares_place.Goals as goal

pub returns : goal.returns
unfolding shares_place both_draw
returns c = any-chain (both_draw (net_on c.args.self.now) c.args.t c.args.u) _ _ _ _ _ c.any.ensures.ran c.places.ensures.is (λ x b q k. search (rules, tests))
