-- `plainly::page::Page::is_source` meets its contract.
use Rattle.std.proofs.Common.{rules, sym, ◌∙◌}
use borrow.Author.Tests.{tests}
use Rattle.sequential.specs.Tests.{takes_nothing}
use Rattle.plainly.proofs.Told.{source-all}
use Rattle.plainly.specs.Page.{net_on}
use Rattle.plainly.proofs.Ranges.{all-chain}
use Rattle.plainly.proofs.page.Page.is_source.Goals as goal

pub returns : goal.returns
unfolding takes_nothing
returns c = all-chain (takes_nothing (net_on c.args.self.now) c.args.t) _ _ _ _ _ c.all.ensures.ran c.places.ensures.is (λ x b q k. search (rules, tests)) ∙ sym (source-all _ _)
