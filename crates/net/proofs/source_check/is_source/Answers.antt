-- `net::source_check::is_source` meets its contract: the entry where bisection for the start of t's row ends shows whether a key lies in the row.
use Rattle.scan.proofs.Basics.{◌≤◌, arith}
use native.Mathlib.Nat.{mul-le-mul}
use Rattle.table.specs.Table.{key_at}
use Rattle.net.specs.Net.{place_count, transition_count, weight_count}
use Rattle.net.proofs.Source.{source-past, source-at}
use Rattle.net.proofs.source_check.is_source.Goals as goal

pub overflow_mul-first : goal.overflow_mul-first
unfolding transition_count
overflow_mul-first c = let a : c.args.t ≤ 32 = omega arith in omega (arith, mul-le-mul a c.args.net.known.few_places)

pub returns-then-entries-i : goal.returns-then-entries-i
unfolding place_count weight_count
returns-then-entries-i c = source-past _ c.requires.0 _ c.requires.1 _ c.lower_bound-i.ensures c.if-entries-i.true

pub overflow_add-result : goal.overflow_add-result
unfolding transition_count
overflow_add-result c = let a : c.args.t ≤ 32 = omega arith in omega (arith, mul-le-mul a c.args.net.known.few_places)

pub returns : goal.returns
unfolding place_count weight_count key_at
returns c =
    source-at _ c.requires.0 _ c.requires.1
    _ c.lower_bound-i.ensures c.if-entries-i.false
