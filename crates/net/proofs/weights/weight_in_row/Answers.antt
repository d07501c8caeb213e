-- `net::weights::weight_in_row` meets its contract.
use native.Mathlib.Nat.{mul-le-mul}
use Rattle.scan.proofs.Basics.{arith, sym, ◌∙◌}
use Rattle.scan.proofs.Tests.{lt-ltb, le-ltb}
use Rattle.table.specs.Table.{value_at}
use Rattle.table.proofs.Bisection.{look-up-within}
use Rattle.net.specs.Net.{place_count, weight_count, entry_weight}
use Rattle.net.specs.Accessors.{weight_reply, row_reply}
use Rattle.net.proofs.weights.weight_in_row.Goals as goal

pub returns-then-places-p : goal.returns-then-places-p
unfolding row_reply place_count
returns-then-places-p c = rw (le-ltb _ _ c.if-places-p.true)

pub overflow_mul-row : goal.overflow_mul-row
overflow_mul-row c = omega (arith, mul-le-mul c.requires c.args.net.known.few_places)

pub overflow_add-row : goal.overflow_add-row
overflow_add-row c = omega (arith, mul-le-mul c.requires c.args.net.known.few_places)

pub overflow_add-result-in-Some : goal.overflow_add-result-in-Some
overflow_add-result-in-Some c = omega (arith, look-up-within _ _ _ _ _ (sym c.find.ensures ∙ c.in-Some.is))

pub offset_bounds-net-entries : goal.offset_bounds-net-entries
offset_bounds-net-entries c = omega (arith, look-up-within _ _ _ _ _ (sym c.find.ensures ∙ c.in-Some.is))

pub bounds-net-entries : goal.bounds-net-entries
bounds-net-entries c = let l = look-up-within _ _ _ _ _ (sym c.find.ensures ∙ c.in-Some.is) in omega arith

pub returns-in-Some : goal.returns-in-Some
unfolding row_reply weight_reply entry_weight value_at place_count weight_count
returns-in-Some c = rw (lt-ltb _ _ c.if-places-p.false, sym c.find.ensures ∙ c.in-Some.is)

pub returns-in-None : goal.returns-in-None
unfolding row_reply weight_reply place_count weight_count
returns-in-None c = rw (lt-ltb _ _ c.if-places-p.false, sym c.find.ensures ∙ c.in-None.is)
