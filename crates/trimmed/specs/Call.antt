-- The call that trims a schedule (§10.35): what it makes of its words, its postcondition, and its answer as plain numbers.
use Rattle.std.specs.Prelude.{ℕ, List, [], ◌∷◌, length, Result, Err, Ok}
use Rattle.refusal.specs.Limits.{scratch_limit}
use Rattle.refusal.specs.Refusal.{plain_answer}
use Rattle.refusal.specs.declared.Refusal.{Refusal}
use Rattle.graph.specs.Readable.{words_reply}
use Rattle.encoding.specs.Lengths.{lengths_numbers}
use Rattle.encoding.specs.declared.Lengths.{Lengths}
use Rattle.lending.specs.Call.{Core, WordsDone, CallDone}
use Rattle.trimmed.specs.Trim.{trimmed_words, kept_list}

-- the lengths of both results, or a refusal
abbrev pub TrimAnswer : Type 0
TrimAnswer = Result Lengths Refusal

-- the lengths of both results, in the order in which they are named (§8.1)
abbrev pub lengths : List ℕ → List ℕ → Lengths
lengths net sheet = record { sheet = length (trimmed_words net sheet); list = length (kept_list net sheet) }

-- 1 to 9 and 26 are asked, and nothing from 10 on: §7.64
abbrev pub trim_core : List ℕ → List ℕ → Core TrimAnswer
trim_core net sheet = record {
  verdict = words_reply net sheet;
  accepted = Ok (lengths net sheet);
  refused = Err;
  results = trimmed_words net sheet ∷ kept_list net sheet ∷ [];
}

-- the postcondition without scratch
abbrev pub TrimWritten : List ℕ → List ℕ → List ℕ → List ℕ → TrimAnswer → List ℕ → List ℕ → Type 0
TrimWritten net sheet out list r out' list' = WordsDone (trim_core net sheet) (out ∷ list ∷ []) r (out' ∷ list' ∷ [])

abbrev pub TrimDone : List ℕ → List ℕ → List ℕ → List ℕ → List ℕ → TrimAnswer → List ℕ → List ℕ → List ℕ → Type 0
TrimDone net sheet out list scratch r out' list' scratch' =
    CallDone scratch_limit (trim_core net sheet) (out ∷ list ∷ []) scratch r (out' ∷ list' ∷ []) scratch'

-- number, kind, position, both lengths (§8.1), which are 0 if refused (§8.3)
abbrev pub plain_trim : TrimAnswer → List ℕ
plain_trim answer = plain_answer lengths_numbers answer
