-- `choice::choice_sets::noted` meets its contract: a note stays, and nothing is asked for the leader itself.
use Rattle.scan.proofs.Basics.{arith, sym, ◌∙◌}
use Rattle.choice.proofs.Choices.{nothing-noted}
use Rattle.choice.proofs.choice_sets.noted.Goals as goal

pub returns-then-note-ne0 : goal.returns-then-note-ne0
returns-then-note-ne0 c = record { noted = c.requires; asked = λ e. absurd (omega arith) }

pub returns-then-leader-t : goal.returns-then-leader-t
returns-then-leader-t c = record { noted = nothing-noted _ _; asked = λ e. c.if-leader-t.true }

pub returns-then-is_free : goal.returns-then-is_free
returns-then-is_free c =
    record {
      noted = record { free = λ e. sym c.is_free.ensures ∙ c.if-is_free.true; not_free = λ e. absurd (omega arith) };
      asked = λ e. absurd (omega arith);
    }

pub returns : goal.returns
returns c =
    record {
      noted = record { free = λ e. absurd (omega arith); not_free = λ e. sym c.is_free.ensures ∙ c.if-is_free.false };
      asked = λ e. absurd (omega arith);
    }
