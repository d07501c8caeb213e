-- `plainly::page::Page::arc_count` meets its contract.
use Rattle.plainly.specs.Page.{net_on, graph_on}
use Rattle.plainly.proofs.Keys.{Counted}
use Rattle.plainly.proofs.page.Page.arc_count.Given as goal

abbrev pub invariant-loop-t : goal.invariant-loop-t
invariant-loop-t l = Counted (net_on l.self) (graph_on l.self) l.n l.t l.arcs

abbrev pub invariant-loop-n : goal.invariant-loop-n
invariant-loop-n l = Counted (net_on l.self) (graph_on l.self) l.n 0 l.arcs
