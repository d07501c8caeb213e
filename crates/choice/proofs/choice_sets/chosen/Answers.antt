-- `choice::choice_sets::chosen` meets its contract: the note decides.
use Rattle.scan.proofs.Tests.{eq-eqb, ne_eqb}
use Rattle.choice.proofs.choice_sets.chosen.Goals as goal

pub returns-then-note-eq1 : goal.returns-then-note-eq1
returns-then-note-eq1 c = rw (eq-eqb _ _ c.if-note-eq1.true)

pub returns : goal.returns
returns c = rw (ne_eqb _ _ c.if-note-eq1.false)
