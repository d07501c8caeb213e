-- A call's verdict follows its checks: 21 first, then those of its words, 22 last. What a crate has to show about its call, and by which numbers the call refuses.
use Rattle.std.specs.Prelude.{Err, Ok}
use Rattle.refusal.specs.declared.Reason.TheVariants.{SmallOutput, SmallScratch}
use Rattle.scan.proofs.Basics.{ℕ, ◌≤◌, ◌<◌, arith, ◌≡◌, refl, sym, ap, ◌∙◌, inl, ⊎_elim, ◌↔◌, true, ltb, List, [], ◌∷◌, ◌++◌, length}
use mathlib.Core.Logic.Iff
use Rattle.scan.proofs.Tests.{ltb-true, ltb-false, by_test}
use Rattle.refusal.specs.Refusal.{refusal, plain_refusal, number_of, Verdict, refusal_number}
use Rattle.refusal.specs.Verdict.{and_then}
use Rattle.refusal.specs.Checks.{Check, once, AllPass}
use Rattle.refusal.specs.declared.Position.TheVariants.{Nothing}
use Rattle.refusal.specs.declared.Reason.{Reason}
use Rattle.refusal.specs.declared.Refusal.{Refusal}
use Rattle.refusal.proofs.Judges.{Judges, judges-then, properly, proper-append, fails-number}
use Rattle.refusal.proofs.Verdicts.{accepted-refused}
use Rattle.lending.specs.Call.{Core, scratch_fault, output_fault, words_verdict, call_verdict, answer_of}
use Rattle.lending.specs.Demands.{number, call_checks}
use Rattle.lending.proofs.Lent.{Room, scratch-small, scratch-enough, output-room, output-short, output-cases}

-- ---- one check that is asked once

module _ (v : Verdict) (P : Type 0) (reason : Reason) where
  judges-passed : v ≡ Ok tt → P → Judges v (once P reason ∷ [])
  judges-passed e p = record {
    accepts = (λ a. (p, tt), λ q. e);
    refuses = λ r. (accepted-refused v r e, ⊎_elim (λ (f, q). absurd (f p)) (λ (q, b). absurd b));
  }

  judges-failed : v ≡ Err (refusal reason Nothing) → (P → ⊥) → Judges v (once P reason ∷ [])
  judges-failed e f = record {
    accepts = (λ a. accepted-refused v _ a e, λ (p, u). absurd (f p));
    refuses = λ r. (λ a. inl (f, cc), ⊎_elim (λ (g, q). e ∙ ap Err (sym q)) (λ (p, b). absurd b));
  }

pub scratch-judged : (limit lent : ℕ) (Fits : Type 0) → Fits ↔ (limit ≤ lent) → Judges (scratch_fault limit lent) (once Fits SmallScratch ∷ [])
scratch-judged limit lent Fits (f, g) =
    by_test (ltb lent limit) (λ e. let l = ltb-true lent limit e in judges-failed _ Fits SmallScratch (scratch-small limit lent l) (λ p. let k = f p in omega arith))
    (λ e. let l = ltb-false lent limit e in judges-passed _ Fits SmallScratch (scratch-enough limit lent l) (g l))

pub output-judged : (results outs : List (List ℕ)) (Fits : Type 0) → Fits ↔ Room results outs → Judges (output_fault results outs) (once Fits SmallOutput ∷ [])
output-judged results outs Fits (f, g) =
    output-cases results outs (λ i l. judges-failed _ Fits SmallOutput (output-short results outs i l) (λ p. let k = f p i in omega arith))
    (λ h. judges-passed _ Fits SmallOutput (output-room results outs h) (g h))

-- checks leave one verdict
pub judges-same : (v w : Verdict) (checks : List Check) → Judges v checks → Judges w checks → v ≡ w
judges-same (Ok tt) w checks j k = sym (k.accepts.1 (j.accepts.0 refl))
judges-same (Err r) w checks j k = sym ((k.refuses r).1 ((j.refuses r).0 refl))

-- ---- all that a call checks

module _ {Answer : Type 0} (core : Core Answer) (outs : List (List ℕ)) where
  -- 22 last. Whether the result fits may be said in words that only mean something where the checks before have passed
  pub words-judged : {words : List Check} {Fits : Type 0} → Judges core.verdict words → (AllPass words → Fits ↔ Room core.results outs)
      → Judges (words_verdict core outs) (words ++ (once Fits SmallOutput ∷ []))
  unfolding words_verdict
  words-judged {words} {Fits} j fits = judges-then core.verdict (output_fault core.results outs) words (once Fits SmallOutput ∷ []) j (λ p. output-judged _ _ Fits (fits p))

  -- no 22 where nothing is written
  pub words-judged-none : {words : List Check} → Judges core.verdict words → core.results ≡ [] → Judges (words_verdict core outs) words
  words-judged-none j q = rw (nothing q) j
    where
      then-nothing : (v : Verdict) → and_then v (Ok tt) ≡ v
      then-nothing (Ok tt) = refl
      then-nothing (Err r) = refl

      nothing : core.results ≡ [] → words_verdict core outs ≡ core.verdict
      nothing q = unfold words_verdict in rw (output-room core.results outs (rw q (λ i. omega arith))) (then-nothing core.verdict)

  -- 21 first
  pub call-judged : {rest : List Check} (limit : ℕ) (scratch : List ℕ) → Judges (words_verdict core outs) rest
      → Judges (call_verdict limit core outs (length scratch)) (call_checks limit scratch rest)
  unfolding call_verdict
  call-judged limit scratch j =
      judges-then (scratch_fault limit (length scratch)) _ (once (limit ≤ length scratch) SmallScratch ∷ []) _ (scratch-judged limit (length scratch) _ Iff.rfl) (λ p. j)

-- ---- what a crate shows of its call

-- its verdict follows the checks of its words, which are numbered neither 0 nor 21; and its answers as plain numbers
pub record Lawful {Answer : Type 0} (core : Core Answer) (plain : Answer → List ℕ) (own : List ℕ) (words : List Check) : Type 0 where
  pub judged : Judges core.verdict words
  pub proper : properly words ≡ true
  pub plain-accepted : plain core.accepted ≡ 0 ∷ 0 ∷ 0 ∷ own
  pub own-length : length own ≡ 3
  pub plain-refused : (r : Refusal) → plain (core.refused r) ≡ plain_refusal r

module _ {Answer : Type 0} {core : Core Answer} {plain : Answer → List ℕ} {own : List ℕ} {words : List Check} (law : Lawful core plain own words) where
  pub answer-number : (v : Verdict) → number (plain (answer_of core v)) ≡ number_of v
  answer-number (Ok tt) = ap number law.plain-accepted
  answer-number (Err r) = ap number (law.plain-refused r)

  -- a refusal has a number from 1 on, and 21 exactly where scratch is too small
  pub refusal-number : (limit : ℕ) (outs : List (List ℕ)) (scratch : List ℕ) (r : Refusal) → call_verdict limit core outs (length scratch) ≡ Err r
      → (1 ≤ refusal_number r) × ((refusal_number r ≡ 21) ↔ (length scratch < limit))
  refusal-number limit outs scratch r e =
      ⊎_elim (λ (f, q). rw q (omega arith, (λ z. omega arith, λ l. refl)))
      (λ (l, f). let (a, b) = fails-number rest r (proper-append words _ law.proper refl) f in (a, (λ z. absurd (b z), λ m. absurd (omega arith))))
      (((call-judged core outs limit scratch (words-judged core outs {Fits = Room core.results outs} law.judged (λ p. Iff.rfl))).refuses r).0 e)
    where
      rest : List Check
      rest = words ++ (once (Room core.results outs) SmallOutput ∷ [])
