-- Worked nets with their answers: the nets of §14.3, and the limits, met exactly and passed (§1.8, §14.6).
use Rattle.refusal.specs.declared.Reason.TheVariants.{NetLength, NetOrder, NetSize, NetWeight, NoSource, StartOverCapacity}
use Rattle.std.specs.Prelude.{ℕ, List, [], ◌∷◌, Err, Ok}
use Rattle.refusal.specs.Refusal.{refusal, Verdict}
use Rattle.net.specs.Check.{net_reply}
use Rattle.refusal.specs.declared.Position.TheVariants.{Nothing, Entry, Place}

pub record Example : Type 0 where
  pub net : List ℕ
  pub answer : Verdict

abbrev pub ◌answers◌ : List ℕ → Verdict → Example
net answers answer = record { net = net; answer = answer }

infix 3 ◌answers◌
abbrev pub table : List Example
table =
    -- the nets of §14.3
    (1 ∷ 1 ∷ 0 ∷ [] answers (Ok tt)) ∷
    (1 ∷ 2 ∷ 2 ∷ 1 ∷ 2 ∷ 1 ∷ 1 ∷ [] answers (Ok tt)) ∷
    (1 ∷ 3 ∷ 3 ∷ 1 ∷ 2 ∷ 3 ∷ 1 ∷ 1 ∷ 1 ∷ [] answers (Ok tt)) ∷
    (1 ∷ 2 ∷ 3 ∷ 1 ∷ 2 ∷ 3 ∷ 1 ∷ 1 ∷ 1 ∷ [] answers (Ok tt)) ∷
    (1 ∷ 2 ∷ 2 ∷ 1 ∷ 2 ∷ 2 ∷ 1 ∷ [] answers (Ok tt)) ∷
    (1 ∷ 2 ∷ 3 ∷ 1 ∷ 3 ∷ 4 ∷ 1 ∷ 1 ∷ 1 ∷ [] answers (Ok tt)) ∷
    (1 ∷ 2 ∷ 3 ∷ 1 ∷ 2 ∷ 4 ∷ 1 ∷ 1 ∷ 16777216 ∷ [] answers (Ok tt)) ∷
    -- P and T
    (32 ∷ 32 ∷ 0 ∷ [] answers (Ok tt)) ∷
    (33 ∷ 32 ∷ 0 ∷ [] answers Err (refusal NetSize Nothing)) ∷
    (32 ∷ 33 ∷ 0 ∷ [] answers Err (refusal NetSize Nothing)) ∷
    (0 ∷ 32 ∷ 0 ∷ [] answers Err (refusal NetSize Nothing)) ∷
    (32 ∷ 0 ∷ 0 ∷ [] answers Err (refusal NetSize Nothing)) ∷
    -- K at its limit, where every transition takes something, and one more
    (1 ∷ 1 ∷ 4 ∷ 0 ∷ 1 ∷ 2 ∷ 3 ∷ 1 ∷ 1 ∷ 1 ∷ 1 ∷ [] answers Err (refusal NoSource Nothing)) ∷
    (1 ∷ 1 ∷ 5 ∷ 0 ∷ 1 ∷ 2 ∷ 3 ∷ 4 ∷ 1 ∷ 1 ∷ 1 ∷ 1 ∷ 1 ∷ [] answers Err (refusal NetSize Nothing)) ∷
    -- the length, one less and one more
    (1 ∷ 1 ∷ [] answers Err (refusal NetLength Nothing)) ∷
    (1 ∷ 1 ∷ 1 ∷ 2 ∷ [] answers Err (refusal NetLength Nothing)) ∷
    (1 ∷ 1 ∷ 1 ∷ 2 ∷ 1 ∷ 1 ∷ [] answers Err (refusal NetLength Nothing)) ∷
    -- a key at the limit and one less; equal keys
    (1 ∷ 1 ∷ 1 ∷ 4 ∷ 1 ∷ [] answers Err (refusal NetOrder (Entry 0))) ∷
    (1 ∷ 1 ∷ 1 ∷ 3 ∷ 1 ∷ [] answers (Ok tt)) ∷
    (1 ∷ 2 ∷ 2 ∷ 2 ∷ 2 ∷ 1 ∷ 1 ∷ [] answers Err (refusal NetOrder (Entry 1))) ∷
    -- a weight at the limit, one more, and 0
    (1 ∷ 1 ∷ 1 ∷ 2 ∷ 1000000000 ∷ [] answers (Ok tt)) ∷
    (1 ∷ 1 ∷ 1 ∷ 2 ∷ 1000000001 ∷ [] answers Err (refusal NetWeight (Entry 0))) ∷
    (1 ∷ 1 ∷ 1 ∷ 2 ∷ 0 ∷ [] answers Err (refusal NetWeight (Entry 0))) ∷
    -- a transition with no keys at all is a source; one that only takes is none
    (1 ∷ 2 ∷ 1 ∷ 1 ∷ 1 ∷ [] answers (Ok tt)) ∷
    (1 ∷ 1 ∷ 1 ∷ 0 ∷ 1 ∷ [] answers Err (refusal NoSource Nothing)) ∷
    -- a start at its capacity, above it, and without one; a capacity without a start; the lowest place; before 5, and after 4 of a later entry
    (1 ∷ 1 ∷ 2 ∷ 2 ∷ 3 ∷ 7 ∷ 7 ∷ [] answers (Ok tt)) ∷
    (1 ∷ 1 ∷ 2 ∷ 2 ∷ 3 ∷ 8 ∷ 7 ∷ [] answers Err (refusal StartOverCapacity (Place 0))) ∷
    (1 ∷ 1 ∷ 1 ∷ 2 ∷ 8 ∷ [] answers (Ok tt)) ∷
    (1 ∷ 1 ∷ 1 ∷ 3 ∷ 1000000000 ∷ [] answers (Ok tt)) ∷
    (3 ∷ 1 ∷ 5 ∷ 6 ∷ 7 ∷ 8 ∷ 10 ∷ 11 ∷ 9 ∷ 2 ∷ 2 ∷ 1 ∷ 1 ∷ [] answers Err (refusal StartOverCapacity (Place 1))) ∷
    (1 ∷ 1 ∷ 3 ∷ 0 ∷ 2 ∷ 3 ∷ 1 ∷ 2 ∷ 1 ∷ [] answers Err (refusal StartOverCapacity (Place 0))) ∷
    (2 ∷ 1 ∷ 3 ∷ 4 ∷ 6 ∷ 7 ∷ 2 ∷ 1 ∷ 0 ∷ [] answers Err (refusal NetWeight (Entry 2))) ∷ []

abbrev pub replies_to : List Example → List Verdict
replies_to [] = []
replies_to (e ∷ es) = net_reply e.net ∷ replies_to es

abbrev pub answers_of : List Example → List Verdict
answers_of [] = []
answers_of (e ∷ es) = e.answer ∷ answers_of es
