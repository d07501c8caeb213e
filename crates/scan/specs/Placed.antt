-- Words written to a lent buffer one after the other, from an index on.
use Rattle.std.specs.Prelude.{ℕ, ◌+◌, ◌-◌, min, List, length}
use Rattle.std.proofs.lemmas.List.Edits.{sets}

-- each word replaces the one at its index; those past the buffer's end are dropped, and the rest of the buffer is unchanged
unfoldable pub placed : {A : Type 0} → List A → ℕ → List A → List A
placed out at words = sets out at words

-- the index after the last word written, given the length of the buffer
unfoldable pub next_place : ℕ → ℕ → List ℕ → ℕ
next_place room at words = at + min (length words) (room - at)
