-- A number of a call's own that can be missing, and its plain number: §8.4.
use Rattle.std.specs.Prelude as prelude
use Rattle.std.specs.Prelude.{ℕ, ◌+◌, None, Some}
use Rattle.std.proofs.Math.Option.{Option, none, some}

-- an index that an answer tells, or says to be missing
abbrev pub Index : Type 0
Index = prelude.Option ℕ

-- 1 more than the number, or 0 if it is missing
abbrev pub plain_index : Index → ℕ
plain_index (Some i) = i + 1
plain_index None = 0

abbrev pub index_from : Option ℕ → Index
index_from none = None
index_from (some i) = Some i
