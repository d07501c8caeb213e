-- `choice::choice_sets::left` meets its contract.
use Rattle.scan.proofs.Tests.{eq-eqb, ne_eqb}
use Rattle.choice.specs.Choices.{left_of}
use Rattle.choice.proofs.choice_sets.left.Goals as goal

pub returns-then-leader-source : goal.returns-then-leader-source
unfolding left_of
returns-then-leader-source c = rw (ne_eqb _ _ c.if-leader-source.true)

pub returns-then-t-s : goal.returns-then-t-s
unfolding left_of
returns-then-t-s c = rw (eq-eqb _ _ c.if-leader-source.false, eq-eqb _ _ c.if-t-s.true)

pub returns : goal.returns
unfolding left_of
returns c = rw (eq-eqb _ _ c.if-leader-source.false, ne_eqb _ _ c.if-t-s.false)
