-- `graph::word_check::entry_fault` meets its contract.
use Rattle.scan.specs.Scan.{or_else, when}
use Rattle.sequential.specs.Check.{entry_fault}
use Rattle.scan.proofs.Basics.{rules, sym, ◌∙◌}
use Rattle.graph.proofs.word_check.entry_fault.Goals as goal

pub key_fails-requires : goal.key_fails-requires
unfolding entry_fault or_else when
key_fails-requires c = search rules

pub refuse-requires : goal.refuse-requires
unfolding entry_fault or_else when
refuse-requires c = search rules

pub returns-then-key_fails : goal.returns-then-key_fails
unfolding entry_fault or_else when
returns-then-key_fails c = c.refuse.ensures ∙ rw (sym c.key_fails.ensures ∙ c.if-key_fails.true)

pub value_fails-requires : goal.value_fails-requires
unfolding entry_fault or_else when
value_fails-requires c = search rules

pub refuse-requires-then-value_fails : goal.refuse-requires-then-value_fails
unfolding entry_fault or_else when
refuse-requires-then-value_fails c = search rules

pub returns-then-value_fails : goal.returns-then-value_fails
unfolding entry_fault or_else when
returns-then-value_fails c =
    c.refuse-then-value_fails.ensures ∙ rw (
      sym c.key_fails.ensures ∙ c.if-key_fails.false,
      sym c.value_fails.ensures ∙ c.if-value_fails.true,
    )

pub returns : goal.returns
unfolding entry_fault or_else when
returns c = rw (sym c.key_fails.ensures ∙ c.if-key_fails.false, sym c.value_fails.ensures ∙ c.if-value_fails.false)
