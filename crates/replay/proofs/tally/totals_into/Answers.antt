-- `replay::tally::totals_into` meets its contract.
use Rattle.scan.proofs.Basics.{arith, rules}
use Rattle.net.proofs.Laws.{sizes}
use Rattle.replay.proofs.Sides.{weighable, both-totals}
use Rattle.replay.proofs.tally.totals_into.Goals as goal

pub fired_times-parikh-requires : goal.fired_times-parikh-requires
fired_times-parikh-requires c =
    let p = c.requires.countable in
    let s = sizes _ p.accepted in
    record { log_holds = p.holds; fired_bound = λ i l. omega (arith, p.low i l) }

pub side-all_taken-requires : goal.side-all_taken-requires
side-all_taken-requires c = search (weighable, rules)

pub side-all_put-requires : goal.side-all_put-requires
side-all_put-requires c = search (weighable, rules)

pub returns : goal.returns
returns c = search (both-totals, rules)
