-- The parts of a call over bytes, for the contracts of its private functions.
use Rattle.refusal.specs.Refusal.{Verdict}
use Rattle.refusal.specs.declared.Refusal.{Refusal}
use Rattle.std.specs.Prelude.{ℕ, ◌≡◌, List, [], ◌∷◌, Result, Err, Ok}
use Rattle.refusal.specs.Verdict.{and_then}
use Rattle.lending.specs.Call.{Core, scratch_fault, buffer, words_verdict, answer_of}
use Rattle.schedule.specs.Plain.{FireAnswer}
use Rattle.schedule.specs.declared.Walker.{Walker}
use Rattle.octets.specs.Words.{all_words}
use Rattle.firmware.specs.Bytes.{scratch_bytes, broken_fault, bytes_verdict, bytes_answer, out_after}
use Rattle.firmware.specs.Calls.{own_core, fire_bytes}

-- the checks before a word is read: 21, then 31 (§7.65)
unfoldable pub early_verdict : ℕ → ℕ → ℕ → ℕ → Verdict
early_verdict lent net sheet firings = and_then (scratch_fault scratch_bytes lent) (broken_fault net sheet firings)

-- ---- a single firing

-- the node to which it leads, or the refusal
abbrev pub next_node : FireAnswer × Walker → Result ℕ Refusal
next_node (Ok e, w) = Ok w.node
next_node (Err r, w) = Err r

-- of words: what is answered past 21 and 31
unfoldable pub next_of_words : List ℕ → List ℕ → ℕ → ℕ → Result ℕ Refusal
next_of_words net sheet n t = next_node (answer_of (own_core net sheet n t) (words_verdict (own_core net sheet n t) []))

-- of bytes
unfoldable pub next_of_bytes : List ℕ → List ℕ → ℕ → ℕ → ℕ → Result ℕ Refusal
next_of_bytes net sheet n t lent = next_node (bytes_answer (fire_bytes net sheet n t) [] lent)

-- ---- the other calls

module _ {Answer : Type 0} where
  -- the part of a call after 21 and 31: the checks of the words, and the result written as bytes
  pub record Written (core : Core Answer) (out : List ℕ) (answer : Answer) (out' : List ℕ) : Type 0 where
    pub answered : answer ≡ answer_of core (words_verdict core (all_words out ∷ []))
    pub written : out' ≡ out_after (words_verdict core (all_words out ∷ [])) (buffer core.results 0) out

  -- all that a call does, except what it writes to scratch and reply
  pub record Served (core : Core Answer) (lent : ℕ) (out : List ℕ) (answer : Answer) (out' : List ℕ) : Type 0 where
    pub answered : answer ≡ bytes_answer core out lent
    pub written : out' ≡ out_after (bytes_verdict core out lent) (buffer core.results 0) out
