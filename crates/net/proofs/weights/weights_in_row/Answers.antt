-- `net::weights::weights_in_row` meets its contract.
use native.Mathlib.Nat.{mul-le-mul}
use Rattle.scan.proofs.Basics.{arith, rules}
use Rattle.net.specs.Net.{place_count, weight_count}
use Rattle.net.specs.Accessors.{row_weights}
use Rattle.net.proofs.weights.weights_in_row.Goals as goal

pub bounds-net-0 : goal.bounds-net-0
unfolding row_weights place_count weight_count
bounds-net-0 c = search rules

pub bounds-net-2 : goal.bounds-net-2
unfolding row_weights place_count weight_count
bounds-net-2 c = search rules

pub overflow_cast-net : goal.overflow_cast-net
unfolding row_weights place_count weight_count
overflow_cast-net c = search rules

pub overflow_cast-row : goal.overflow_cast-row
unfolding row_weights place_count weight_count
overflow_cast-row c = search rules

pub overflow_mul-row : goal.overflow_mul-row
unfolding row_weights place_count weight_count
overflow_mul-row c = omega (arith, mul-le-mul c.requires c.args.net.known.few_places)

pub overflow_cast-places : goal.overflow_cast-places
unfolding row_weights place_count weight_count
overflow_cast-places c = search rules

pub value_row-requires : goal.value_row-requires
unfolding row_weights place_count weight_count
value_row-requires c = search rules

pub returns : goal.returns
unfolding row_weights place_count weight_count
returns c = c.value_row.ensures
