-- `graph::word_check::value_fails` meets its contract.
use Rattle.scan.proofs.Basics.{ℕ, ◌<◌, ◌≡◌, Bool, true, false, leb, List}
use Rattle.scan.proofs.Tests.{lt-ltb, le-ltb, ne_eqb}
use Rattle.table.specs.Table.{key_at, value_at}
use Rattle.sequential.specs.Words.{node_count, entry_key, entry_value}
use Rattle.sequential.specs.Check.{target_fails, count_fails, value_fails, arc_value_fails}
use Rattle.graph.specs.Readable.{value_test}
use Rattle.graph.proofs.word_check.value_fails.Goals as goal

-- an arc's value is tested whether or not counts are
of-arc : (counts : Bool) (sheet : List ℕ) (arcs i : ℕ) → entry_key sheet i < arcs → leb (node_count sheet) (entry_value sheet i) ≡ value_test counts sheet arcs i
unfolding value_fails arc_value_fails target_fails
of-arc true sheet arcs i l = rw (lt-ltb _ _ l)
of-arc false sheet arcs i l = rw (lt-ltb _ _ l)

pub returns-then-sheet-i : goal.returns-then-sheet-i
unfolding entry_key entry_value key_at value_at
returns-then-sheet-i c = let a = c.args in of-arc a.counts a.sheet.words.now a.arcs a.i c.if-sheet-i.true

pub returns-then-not-counts : goal.returns-then-not-counts
unfolding arc_value_fails entry_key key_at
returns-then-not-counts c = rw (c.if-not-counts.true, le-ltb _ _ c.if-sheet-i.false)

pub returns-then-value-eq0 : goal.returns-then-value-eq0
unfolding value_fails count_fails entry_key entry_value key_at value_at
returns-then-value-eq0 c = rw (c.if-not-counts.false, le-ltb _ _ c.if-sheet-i.false, c.if-value-eq0.true)

pub returns : goal.returns
unfolding value_fails count_fails entry_key entry_value key_at value_at
returns c = rw (c.if-not-counts.false, le-ltb _ _ c.if-sheet-i.false, ne_eqb _ _ c.if-value-eq0.false)
