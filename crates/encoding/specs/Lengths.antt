-- The lengths of two results, a schedule and a list, as a call's own numbers.
use Rattle.std.specs.Prelude.{ℕ, List, [], ◌∷◌}
use Rattle.encoding.specs.declared.Lengths.{Lengths}

-- both lengths, in the order in which they are named: §8.1
abbrev pub lengths_numbers : Lengths → List ℕ
lengths_numbers l = l.sheet ∷ l.list ∷ 0 ∷ []
