-- The call that mends a schedule (§10.14): what it makes of its words, its postcondition, and its answer as plain numbers.
use Rattle.std.specs.Prelude.{ℕ, List, [], ◌∷◌, length, Result, Err, Ok}
use Rattle.refusal.specs.Limits.{scratch_limit}
use Rattle.refusal.specs.Refusal.{plain_answer}
use Rattle.refusal.specs.declared.Refusal.{Refusal}
use Rattle.encoding.specs.Lengths.{lengths_numbers}
use Rattle.encoding.specs.declared.Lengths.{Lengths}
use Rattle.lending.specs.Call.{Core, WordsDone, CallDone}
use Rattle.mended.specs.Mend.{mend_verdict, mended_words}
use Rattle.mended.specs.Changes.{changes}

-- the lengths of both results, or a refusal
abbrev pub MendAnswer : Type 0
MendAnswer = Result Lengths Refusal

-- the lengths of both results, in the order in which they are named (§8.1)
abbrev pub lengths : List ℕ → List ℕ → Lengths
lengths net sheet = record { sheet = length (mended_words net sheet); list = length (changes net sheet) }

abbrev pub mend_core : List ℕ → List ℕ → Core MendAnswer
mend_core net sheet = record {
  verdict = mend_verdict net sheet;
  accepted = Ok (lengths net sheet);
  refused = Err;
  results = mended_words net sheet ∷ changes net sheet ∷ [];
}

-- the postcondition without scratch
abbrev pub MendWritten : List ℕ → List ℕ → List ℕ → List ℕ → MendAnswer → List ℕ → List ℕ → Type 0
MendWritten net sheet out list r out' list' = WordsDone (mend_core net sheet) (out ∷ list ∷ []) r (out' ∷ list' ∷ [])

-- the postcondition under any limit of scratch
abbrev pub MendWithinDone : ℕ → List ℕ → List ℕ → List ℕ → List ℕ → List ℕ → MendAnswer → List ℕ → List ℕ → List ℕ → Type 0
MendWithinDone limit net sheet out list scratch r out' list' scratch' =
    CallDone limit (mend_core net sheet) (out ∷ list ∷ []) scratch r (out' ∷ list' ∷ []) scratch'

abbrev pub MendDone : List ℕ → List ℕ → List ℕ → List ℕ → List ℕ → MendAnswer → List ℕ → List ℕ → List ℕ → Type 0
MendDone = MendWithinDone scratch_limit

-- number, kind, position, both lengths (§8.1), which are 0 if refused (§8.3)
abbrev pub plain_mend : MendAnswer → List ℕ
plain_mend answer = plain_answer lengths_numbers answer
