-- `plainly::page::Page::free_choice` meets its contract.
use Rattle.std.proofs.Common.{rules, ℕ, sym, ◌∙◌, not, ◌||◌}
use borrow.Author.Tests.{tests}
use Rattle.scan.proofs.Every.{all-ext}
use Rattle.sequential.specs.Tests.{takes_same, shares_place, free_choice}
use Rattle.plainly.specs.Page.{net_on}
use Rattle.plainly.proofs.Told.{alike-all}
use Rattle.plainly.proofs.Ranges.{all-chain}
use Rattle.plainly.proofs.page.Page.free_choice.Goals as goal

pub returns : goal.returns
unfolding free_choice
returns c =
    let page = c.args.self.now in
    let t = c.args.t in
    all-chain (λ (u : ℕ). not (shares_place (net_on page) t u) || takes_same (net_on page) t u) _ _ _ _ _ c.all.ensures.ran c.transitions.ensures.is (λ x b q k. search (rules, tests))
    ∙ all-ext _ _ _ (λ u l. sym (alike-all _ t u))
