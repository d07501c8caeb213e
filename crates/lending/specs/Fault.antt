-- What a call answers that is lent several schedules: its own numbers, or a refusal and the schedule that is refused.
use Rattle.std.specs.Prelude.{ℕ, List, Result, Ok, Err, None}
use Rattle.refusal.specs.Index.{Index, plain_index}
use Rattle.refusal.specs.Refusal.{plain_answer}
use Rattle.refusal.specs.declared.Refusal.{Refusal}
use Rattle.lending.specs.declared.Fault.{Fault}

-- a refusal of the schedule with this index, or of none
abbrev pub fault : Refusal → Index → Fault
fault r index = record { refusal = r; sheet = index }

abbrev pub unnamed : Refusal → Fault
unnamed r = fault r None

-- the answer, by its refusal alone
abbrev pub no_sheet : {A : Type 0} → Result A Fault → Result A Refusal
no_sheet (Ok a) = Ok a
no_sheet (Err f) = Err f.refusal

-- its plain numbers, by the call's own three numbers if nothing is refused: §8.1, §8.3
abbrev pub plain_told : {A : Type 0} → (A → List ℕ) → Result A Fault → List ℕ
plain_told own answer = plain_answer own (no_sheet answer)

-- the index of the refused schedule (§8.4). It stands apart, since no other own number can come with a refusal (§8.3)
abbrev pub sheet_index : {A : Type 0} → Result A Fault → ℕ
sheet_index (Ok a) = 0
sheet_index (Err f) = plain_index f.sheet
