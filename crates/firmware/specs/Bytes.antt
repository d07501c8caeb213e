-- What every call over bytes does (§15.1): it asks 21 and 31, then does what the word call does with the decoded words; what it returns and leaves in the buffers.
-- What a call makes of its words is given by the `Core` of the word call; this file holds for any `Core`.
use Rattle.refusal.specs.declared.Reason.TheVariants.{BrokenWord}
use Rattle.std.specs.Prelude.{ℕ, ◌*◌, ◌%◌, ◌≤◌, ◌<◌, ◌≡◌, List, [], ◌∷◌, Bool, not, ◌||◌, length, eqb, Err, Ok}
use Rattle.scan.specs.Scan.{when}
use Rattle.refusal.specs.Refusal.{refusal, Verdict}
use Rattle.refusal.specs.Limits.{scratch_limit}
use Rattle.refusal.specs.Verdict.{verdict_of, and_then}
use Rattle.refusal.specs.declared.Position.TheVariants.{Nothing}
use Rattle.lending.specs.Call.{Core, scratch_at_return, buffer, call_verdict, answer_of}
use Rattle.lending.specs.Demands.{number}
use Rattle.octets.specs.Words.{all_words}
use Rattle.octets.specs.Bytes.{bytes_over}

-- ---- how many bytes must be lent

-- four to the word: §15.4
abbrev pub scratch_bytes : ℕ
scratch_bytes = 4 * scratch_limit

-- six numbers of eight: §15.3
abbrev pub reply_bytes : ℕ
reply_bytes = 48

-- ---- §7.31: a broken word

-- a length that is no multiple of four
unfoldable pub is_broken : ℕ → Bool
is_broken bytes = not (eqb (bytes % 4) 0)

-- given the lengths of net, schedule and record, 0 for a call without a record
unfoldable pub broken_fault : ℕ → ℕ → ℕ → Verdict
broken_fault net sheet firings = verdict_of (when (is_broken net || (is_broken sheet || is_broken firings)) (refusal BrokenWord Nothing))

module _ {Answer : Type 0} where
  -- 31 comes before all checks of the words: §7.65
  abbrev pub over_bytes : Verdict → Core Answer → Core Answer
  over_bytes broken core = record { verdict = and_then broken core.verdict; accepted = core.accepted; refused = core.refused; results = core.results }

  -- 21 comes before 31, and 22 last: an output buffer has room for as many words as it has whole ones (§15.5)
  unfoldable pub bytes_verdict : Core Answer → List ℕ → ℕ → Verdict
  bytes_verdict core out lent = call_verdict scratch_bytes core (all_words out ∷ []) lent

  abbrev pub bytes_answer : Core Answer → List ℕ → ℕ → Answer
  bytes_answer core out lent = answer_of core (bytes_verdict core out lent)

-- ---- what is left in an output buffer

-- the result's words as bytes, with what lies past them unchanged; a refusal writes nothing: §15.5
abbrev pub out_after : Verdict → List ℕ → List ℕ → List ℕ
out_after (Ok tt) result out = bytes_over 4 result out
out_after (Err r) result out = out

-- ---- the postcondition, by equations (§13.5): the call's core, its answer as six numbers, what it is lent, what it returns, and what the buffers hold then

module _ {Answer : Type 0} (core : Core Answer) (six : Answer → List ℕ) (out scratch reply : List ℕ) (r : ℕ) (out' scratch' reply' : List ℕ) where
  -- if there is room for the reply, the call writes it and clears scratch, whether it refuses or not: §15.3, §15.4
  pub record Replied : Type 0 where
    pub returned : r ≡ number (six (bytes_answer core out (length scratch)))
    pub replied : reply' ≡ bytes_over 8 (six (bytes_answer core out (length scratch))) reply
    pub written : out' ≡ out_after (bytes_verdict core out (length scratch)) (buffer core.results 0) out
    pub scratch_after : scratch' ≡ scratch_at_return scratch_bytes scratch

  -- if the reply has fewer than 48 bytes, nothing is written, not even to scratch: §15.3
  pub record Untouched : Type 0 where
    pub returned : r ≡ 21
    pub written : out' ≡ out
    pub scratch_after : scratch' ≡ scratch
    pub replied : reply' ≡ reply

  pub record BytesDone : Type 0 where
    pub small : length reply < reply_bytes → Untouched
    pub enough : reply_bytes ≤ length reply → Replied
