-- `plainly::page::Page::offers_choice_of` meets its contract.
use Rattle.std.proofs.Common.{rules, ℕ, sym, ◌∙◌, ◌&&◌, ◌||◌, eqb}
use Rattle.std.specs.Bool.{beq}
use borrow.Author.Tests.{tests}
use Rattle.scan.proofs.Every.{all-ext}
use Rattle.sequential.specs.Tests.{takes_same, offers, offers_as_choice}
use Rattle.plainly.specs.Page.{net_on, graph_on}
use Rattle.plainly.proofs.Told.{same-all, set-all}
use Rattle.plainly.proofs.Ranges.{all-chain}
use Rattle.plainly.proofs.page.Page.offers_choice_of.Goals as goal

pub returns : goal.returns
unfolding offers_as_choice
returns c =
    let page = c.args.self.now in
    let t = c.args.t in
    let free = c.free_choice-free.result in
    all-chain (λ (u : ℕ). beq (offers (net_on page) (graph_on page) c.args.n u) (eqb t u || (takes_same (net_on page) t u && free))) _ _ _ _ _ c.all.ensures.ran c.transitions.ensures.is
    (λ x b q k. search (rules, tests))
    ∙ all-ext _ _ _ (λ u l. rw (← c.requires, same-all _ t u, c.free_choice-free.ensures)) ∙ sym (set-all _ _ _)
