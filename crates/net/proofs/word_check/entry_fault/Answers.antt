-- `net::word_check::entry_fault` meets its contract.
use Rattle.scan.proofs.Basics.{sym, ◌∙◌}
use Rattle.scan.specs.Scan.{or_else, when}
use Rattle.table.specs.Table.{value_at}
use Rattle.refusal.specs.Finding.{found_at, line_finds}
use Rattle.net.specs.Net.{entry_weight}
use Rattle.net.specs.Check.{entry_fault}
use Rattle.net.proofs.word_check.entry_fault.Goals as goal

pub returns-then-key_fails : goal.returns-then-key_fails
unfolding entry_fault line_finds found_at or_else when
returns-then-key_fails c = c.refuse.ensures ∙ rw (← c.requires.limit_is, sym c.key_fails.ensures ∙ c.if-key_fails.true)

pub returns-then-weight_fails : goal.returns-then-weight_fails
unfolding entry_fault line_finds found_at or_else when entry_weight value_at
returns-then-weight_fails c =
    let p = c.requires in
    c.refuse-then-weight_fails.ensures
    ∙ rw (← p.limit_is, ← p.entries_are, sym c.key_fails.ensures ∙ c.if-key_fails.false, sym c.weight_fails.ensures ∙ c.if-weight_fails.true)

pub returns : goal.returns
unfolding entry_fault line_finds found_at or_else when entry_weight value_at
returns c =
    let p = c.requires in
    rw (← p.limit_is, ← p.entries_are, sym c.key_fails.ensures ∙ c.if-key_fails.false, sym c.weight_fails.ensures ∙ c.if-weight_fails.false)
