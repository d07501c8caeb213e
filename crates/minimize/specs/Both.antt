-- The minimal forms of two schedules of a net, in two buffers: what the call makes of its words, and what it measures before it writes.
use Rattle.std.specs.Prelude.{ℕ, List, [], ◌∷◌, length, Result, Err, Ok}
use Rattle.refusal.specs.Verdict.{and_then}
use Rattle.graph.specs.Readable.{words_reply}
use Rattle.lending.specs.Call.{Core, WordsDone}
use Rattle.minimal.specs.Minimal.{minimal_form}
use Rattle.minimize.specs.Tables.{NewNodes, Counted}
use Rattle.refusal.specs.declared.Refusal.{Refusal}
use Rattle.minimize.specs.declared.FormLengths.{FormLengths}
use Rattle.minimize.specs.declared.both.Measure.{Measure}

-- the lengths of both, or a refusal
abbrev pub FormsAnswer : Type 0
FormsAnswer = Result FormLengths Refusal

-- the words of the first are checked before those of the second; only 1 to 9 and 26 are asked
abbrev pub both_core : List ℕ → List ℕ → List ℕ → Core FormsAnswer
both_core net first second = record {
  verdict = and_then (words_reply net first) (words_reply net second);
  accepted = Ok (record { first = length (minimal_form net first); second = length (minimal_form net second) });
  refused = Err;
  results = minimal_form net first ∷ minimal_form net second ∷ [];
}

-- both are written or neither: §9.6
abbrev pub FormsOf : List ℕ → List ℕ → List ℕ → List ℕ → List ℕ → FormsAnswer → List ℕ → List ℕ → Type 0
FormsOf net first second out₁ out₂ r out₁' out₂' = WordsDone (both_core net first second) (out₁ ∷ out₂ ∷ []) r (out₁' ∷ out₂' ∷ [])

-- the form's nodes and the number of its entries
pub record Measured (net sheet : List ℕ) (form : Measure) : Type 0 where
  pub nodes : NewNodes net sheet form.new
  pub counted : Counted net sheet form.entries
