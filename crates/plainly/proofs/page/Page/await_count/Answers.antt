-- `plainly::page::Page::await_count` meets its contract.
use Rattle.scan.proofs.Basics.{rules, arith, ◌≡◌, length}
use borrow.Author.Tests.{tests}
use Rattle.std.specs.List.{filter, range_with_len}
use Rattle.std.proofs.lemmas.Iterator.{YieldsList-from_range}
use Rattle.std.proofs.lemmas.Iterator.Consumers.{YieldsList-from_filter, count_from_yields_List}
use Rattle.scan.proofs.Count.{count-le}
use Rattle.sequential.specs.Tests.{is_await}
use Rattle.plainly.specs.Page.{net_on, graph_on}
use Rattle.plainly.specs.Clauses.{await_total}
use Rattle.plainly.proofs.Ranges.{count-range}
use Rattle.plainly.proofs.page.Page.await_count.Goals as goal

pub returns : goal.returns
unfolding await_total
returns c =
    let page = c.args.self.now in
    let test = is_await (net_on page) (graph_on page) in
    let source = YieldsList-from_range 0 c.nodes.result c.nodes.result c.filter.ensures.source (omega arith) in
    let e : c.count.result ≡ length (filter test (range_with_len 0 c.nodes.result)) =
    count_from_yields_List c.filter.result c.count.result c.count.ensures.ran (YieldsList-from_filter _ test source c.filter.ensures.closure (λ x b q k. search (rules, tests))) in
    let q = count-range test _ _ e c.nodes.ensures.is in
    record { is = q; few = omega (arith, q, count-le test (graph_on page).nodes, c.nodes.ensures.is, c.nodes.ensures.few) }
