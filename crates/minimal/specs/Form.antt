-- The call that writes the minimal form (§10.9): what it makes of its words, its postcondition, and its answer as plain numbers.
use Rattle.std.specs.Prelude.{ℕ, List, [], ◌∷◌, length, Result, Err, Ok}
use Rattle.refusal.specs.Refusal.{plain_answer}
use Rattle.refusal.specs.declared.Refusal.{Refusal}
use Rattle.sequential.specs.Check.{schedule_reply}
use Rattle.graph.specs.Readable.{words_reply}
use Rattle.lending.specs.Call.{Core, WordsDone, CallDone}
use Rattle.refusal.specs.Limits.{scratch_limit}
use Rattle.minimal.specs.Minimal.{minimal_form}

-- the length in words of what is written, or a refusal
abbrev pub FormAnswer : Type 0
FormAnswer = Result ℕ Refusal

abbrev pub form_core : List ℕ → List ℕ → Core FormAnswer
form_core net sheet = record {
  verdict = schedule_reply net sheet;
  accepted = Ok (length (minimal_form net sheet));
  refused = Err;
  results = minimal_form net sheet ∷ [];
}

-- the same for readable words, whether they are a schedule or not: only 1 to 9 and 26 are asked
abbrev pub read_core : List ℕ → List ℕ → Core FormAnswer
read_core net sheet = record {
  verdict = words_reply net sheet;
  accepted = Ok (length (minimal_form net sheet));
  refused = Err;
  results = minimal_form net sheet ∷ [];
}

abbrev pub FormOf : List ℕ → List ℕ → List ℕ → FormAnswer → List ℕ → Type 0
FormOf net sheet out r out' = WordsDone (read_core net sheet) (out ∷ []) r (out' ∷ [])

-- the postcondition without scratch
abbrev pub FormWritten : List ℕ → List ℕ → List ℕ → FormAnswer → List ℕ → Type 0
FormWritten net sheet out r out' = WordsDone (form_core net sheet) (out ∷ []) r (out' ∷ [])

-- the postcondition under any limit of scratch
abbrev pub FormWithinDone : ℕ → List ℕ → List ℕ → List ℕ → List ℕ → FormAnswer → List ℕ → List ℕ → Type 0
FormWithinDone limit net sheet out scratch r out' scratch' = CallDone limit (form_core net sheet) (out ∷ []) scratch r (out' ∷ []) scratch'

abbrev pub FormDone : List ℕ → List ℕ → List ℕ → List ℕ → FormAnswer → List ℕ → List ℕ → Type 0
FormDone = FormWithinDone scratch_limit

-- number, kind, position, the length (§8.1), which is 0 if refused (§8.3)
abbrev pub plain_form : FormAnswer → List ℕ
plain_form answer = plain_answer (λ n. n ∷ 0 ∷ 0 ∷ []) answer
