-- `replay::tally::side` meets its contract.
use Rattle.scan.proofs.Basics.{rules}
use Rattle.replay.proofs.Sides.{side-fits, side-done}
use Rattle.replay.proofs.tally.side.Goals as goal

pub returns : goal.returns
returns c = search (side-done, rules)

pub total-requires : goal.total-requires
total-requires c =
    let t = side-fits c.args.putting c.requires.weighable c.places-places.ensures c.weigh-row.ensures in
    record { n_bound = t.0; at_most = t.1 }
