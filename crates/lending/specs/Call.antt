-- What a call does with what it is lent (§9.1): it needs enough scratch and clears it, and it writes its output buffers or leaves them alone.
-- Calls differ in what they make of their words. The rest is the same for all of them and is said here, for any limit of scratch.
use Rattle.refusal.specs.declared.Reason.TheVariants.{SmallOutput, SmallScratch}
use Rattle.std.specs.Prelude.{ℕ, ◌≡◌, List, [], ◌∷◌, ◌++◌, cond, length, get_or, drop, ltb, Err, Ok}
use Rattle.scan.specs.Scan.{when, tabulate}
use Rattle.scan.specs.Front.{cleared}
use Rattle.refusal.specs.Refusal.{refusal, Verdict}
use Rattle.refusal.specs.Verdict.{verdict_of, and_then}
use Rattle.refusal.specs.declared.Position.TheVariants.{Nothing}
use Rattle.refusal.specs.declared.Refusal.{Refusal}

-- ---- what a call makes of its words, whatever it is lent

pub record Core (Answer : Type 0) : Type 0 where
  -- what the checks of its words find, in their order
  pub verdict : Verdict
  -- what it answers if it accepts, and what it answers for a refusal
  pub accepted : Answer
  pub refused : Refusal → Answer
  -- the words that it writes, a list for each output buffer
  pub results : List (List ℕ)

-- ---- §7.21 and §7.22

-- fewer words of scratch are lent than the limit
unfoldable pub scratch_fault : ℕ → ℕ → Verdict
scratch_fault limit lent = verdict_of (when (ltb lent limit) (refusal SmallScratch Nothing))

-- an output buffer has fewer words than the result
unfoldable pub room_fault : ℕ → ℕ → Verdict
room_fault lent needed = verdict_of (when (ltb lent needed) (refusal SmallOutput Nothing))

-- a buffer by its number; one that is not there is empty
abbrev pub buffer : List (List ℕ) → ℕ → List ℕ
buffer buffers i = get_or buffers i []

-- some output buffer is too short: §9.6
unfoldable pub output_fault : List (List ℕ) → List (List ℕ) → Verdict
output_fault [] outs = Ok tt
output_fault (result ∷ results) outs = and_then (room_fault (length (buffer outs 0)) (length result)) (output_fault results (drop 1 outs))

-- ---- what is answered

module _ {Answer : Type 0} where
  -- 22 comes last (§9.6): only words that pass have a result whose length can be asked for
  unfoldable pub words_verdict : Core Answer → List (List ℕ) → Verdict
  words_verdict core outs = and_then core.verdict (output_fault core.results outs)

  -- 21 comes first: §9.2
  unfoldable pub call_verdict : ℕ → Core Answer → List (List ℕ) → ℕ → Verdict
  call_verdict limit core outs lent = and_then (scratch_fault limit lent) (words_verdict core outs)

  abbrev pub answer_of : Core Answer → Verdict → Answer
  answer_of core (Ok tt) = core.accepted
  answer_of core (Err r) = core.refused r

-- ---- what is left in the buffers

-- what lies past the result stays: §9.4
abbrev pub written_over : List ℕ → List ℕ → List ℕ
written_over result out = result ++ drop (length result) out

unfoldable pub written_at : List (List ℕ) → List (List ℕ) → ℕ → List ℕ
written_at results outs i = written_over (buffer results i) (buffer outs i)

-- a refused call writes to no output buffer (§9.5), not even to one that is long enough (§9.6)
abbrev pub outs_after : Verdict → List (List ℕ) → List (List ℕ) → List (List ℕ)
outs_after (Ok tt) results outs = tabulate (written_at results outs) (length outs)
outs_after (Err r) results outs = outs

-- scratch is cleared up to the limit whatever the answer is (§9.3), unless it is short of the limit: then no word of it is touched (§9.2)
unfoldable pub scratch_at_return : ℕ → List ℕ → List ℕ
scratch_at_return limit scratch = cond (ltb (length scratch) limit) scratch (cleared limit scratch)

-- ---- the postcondition of a call: what it is lent, what it answers, and what the buffers hold afterwards, all of it by equations (§13.5)

module _ {Answer : Type 0} where
  pub record CallDone (limit : ℕ) (core : Core Answer) (outs : List (List ℕ)) (scratch : List ℕ) (answer : Answer) (outs' : List (List ℕ)) (scratch' : List ℕ) : Type 0 where
    pub reply : answer ≡ answer_of core (call_verdict limit core outs (length scratch))
    pub written : outs' ≡ outs_after (call_verdict limit core outs (length scratch)) core.results outs
    pub scratch_after : scratch' ≡ scratch_at_return limit scratch

  -- the part of a call that needs no scratch
  pub record WordsDone (core : Core Answer) (outs : List (List ℕ)) (answer : Answer) (outs' : List (List ℕ)) : Type 0 where
    pub reply : answer ≡ answer_of core (words_verdict core outs)
    pub written : outs' ≡ outs_after (words_verdict core outs) core.results outs
