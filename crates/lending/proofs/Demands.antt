-- The promises of every call, each proved for any call: with no output buffer, one or two, and for one that hands back a value.
use Rattle.std.specs.Prelude.{Err, Ok}
use Rattle.refusal.specs.declared.Reason.TheVariants.{SmallOutput}
use Rattle.refusal.specs.Refusal.{Verdict}
use Rattle.scan.proofs.Basics.{ℕ, ◌≤◌, ◌≡◌, refl, sym, ap, ◌∙◌, ◌↔◌, List, [], ◌∷◌, ◌++◌, length, take}
use mathlib.Core.Logic.Iff
use Rattle.scan.specs.Scan.{tabulate}
use Rattle.refusal.specs.Checks.{Check, once, AllPass}
use Rattle.refusal.specs.declared.Refusal.{Refusal}
use Rattle.refusal.proofs.Judges.{Judges}
use Rattle.lending.specs.Call.{Core, CallDone, buffer, scratch_fault, output_fault, words_verdict, call_verdict, answer_of, outs_after, written_over, scratch_at_return}
use Rattle.lending.specs.Demands.{call_checks, EveryCall, Alike, BuffersUnread, SameFromAnyLimit}
use Rattle.lending.proofs.Lent.{room-one, room-two}
use Rattle.lending.proofs.Laws.{call-enough}
use Rattle.lending.proofs.Judged.{Lawful, scratch-judged, output-judged, judges-same, words-judged, words-judged-none}
use Rattle.lending.proofs.Done.{written-front, by-checks, done-zero, done_refused, scratch-left}

-- ---- a reply, and only one

pub replies : {Answer : Type 0} (limit : ℕ) (core : Core Answer) (outs : List (List ℕ)) (scratch : List ℕ)
    → CallDone limit core outs scratch (answer_of core (call_verdict limit core outs (length scratch)))
    (outs_after (call_verdict limit core outs (length scratch)) core.results outs) (scratch_at_return limit scratch)
replies limit core outs scratch = record { reply = refl; written = refl; scratch_after = refl }

pub done-one : {Answer : Type 0} {limit : ℕ} {core : Core Answer} {outs outs₁ outs₂ : List (List ℕ)} {s t s' t' : List ℕ} {a b : Answer} → length s ≡ length t
    → CallDone limit core outs s a outs₁ s' → CallDone limit core outs t b outs₂ t' → (a ≡ b) × (outs₁ ≡ outs₂)
done-one {limit = limit} {core = core} {outs = outs} e c d = (
  c.reply ∙ ap (λ (n : ℕ). answer_of core (call_verdict limit core outs n)) e ∙ sym d.reply,
  c.written ∙ ap (λ (n : ℕ). outs_after (call_verdict limit core outs n) core.results outs) e ∙ sym d.written,
)

-- ---- every call

module _ {Answer : Type 0} {core : Core Answer} {plain : Answer → List ℕ} {own : List ℕ} {words : List Check} (law : Lawful core plain own words) where
  -- what a call may change is its output buffers, as a list in some form that it keeps
  every_call : {Left : Type 0} (limit : ℕ) (buffers : Left → List (List ℕ)) (before : Left) (rest : List Check) → Judges (words_verdict core (buffers before)) rest
      → ((l m : Left) → buffers l ≡ buffers m → l ≡ m) → ((v : Verdict) → (left : Left) × (outs_after v core.results (buffers before) ≡ buffers left))
      → EveryCall limit plain (λ s. call_checks limit s rest) before (λ s a left s'. CallDone limit core (buffers before) s a (buffers left) s')
  every_call limit buffers before rest j same keeps = record {
    replies = λ s. let (left, e) = keeps (call_verdict limit core (buffers before) (length s)) in
        (_, left, _, record { reply = refl; written = sym e; scratch_after = refl });
    one = λ s t s' t' a b left right e c d. let (p, q) = done-one e c d in (p, same left right q);
    by_numbers = λ s s' a left d. by-checks law d j;
    keeps = λ s s' a left d n. same left before (done_refused law d n).written;
    scratch = λ s s' a left d. scratch-left law d;
  }

  pub every-call-none : {limit : ℕ} → core.results ≡ []
      → EveryCall {Left = Unit} limit plain (λ s. call_checks limit s words) tt (λ s a left s'. CallDone limit core [] s a [] s')
  unfolding tabulate
  every-call-none {limit} q = every_call limit (λ u. []) tt words (words-judged-none core [] law.judged q) (λ l m e. refl) (λ v. (tt, keeps v))
    where
      keeps : (v : Verdict) → outs_after v core.results [] ≡ []
      keeps (Ok tt) = refl
      keeps (Err r) = refl

  pub every-call-one : {limit : ℕ} {result out : List ℕ} {Fits : Type 0} → core.results ≡ result ∷ [] → (AllPass words → Fits ↔ (length result ≤ length out))
      → EveryCall limit plain (λ s. call_checks limit s (words ++ (once Fits SmallOutput ∷ []))) out (λ s a out' s'. CallDone limit core (out ∷ []) s a (out' ∷ []) s')
  unfolding tabulate
  every-call-one {limit} {result} {out} {Fits} q fits =
      every_call limit (λ (x : List ℕ). x ∷ []) out (words ++ (once Fits SmallOutput ∷ []))
      (words-judged core (out ∷ []) law.judged (λ p. rw q (Iff.trans (fits p) (room-one result out)))) (λ l m e. cc) keeps
    where
      keeps : (v : Verdict) → (left : List ℕ) × (outs_after v core.results (out ∷ []) ≡ left ∷ [])
      keeps (Ok tt) = (_, refl)
      keeps (Err r) = (_, refl)

  pub every-call-two : {limit : ℕ} {result₁ result₂ out₁ out₂ : List ℕ} {Fits : Type 0} → core.results ≡ result₁ ∷ result₂ ∷ []
      → (AllPass words → Fits ↔ ((length result₁ ≤ length out₁) × (length result₂ ≤ length out₂)))
      → EveryCall {Left = List ℕ × List ℕ} limit plain (λ s. call_checks limit s (words ++ (once Fits SmallOutput ∷ []))) (out₁, out₂)
      (λ s a outs' s'. CallDone limit core (out₁ ∷ out₂ ∷ []) s a (outs'.0 ∷ outs'.1 ∷ []) s')
  unfolding tabulate
  every-call-two {limit} {result₁} {result₂} {out₁} {out₂} {Fits} q fits =
      every_call limit (λ (x : List ℕ × List ℕ). x.0 ∷ x.1 ∷ []) (out₁, out₂) (words ++ (once Fits SmallOutput ∷ []))
      (words-judged core (out₁ ∷ out₂ ∷ []) law.judged (λ p. rw q (Iff.trans (fits p) (room-two result₁ result₂ out₁ out₂)))) same keeps
    where
      same : (l m : List ℕ × List ℕ) → ◌≡◌ {A = List (List ℕ)} (l.0 ∷ l.1 ∷ []) (m.0 ∷ m.1 ∷ []) → l ≡ m
      same (a, b) (c, d) e = let p : a ≡ c = cc in let q : b ≡ d = cc in rw (p, q)

      keeps : (v : Verdict) → (left : List ℕ × List ℕ) × (outs_after v core.results (out₁ ∷ out₂ ∷ []) ≡ left.0 ∷ left.1 ∷ [])
      keeps (Ok tt) = ((_, _), refl)
      keeps (Err r) = ((_, _), refl)

-- a call that hands back a value beside its answer, and for a refusal the one that it was given
pub every-call-value : {Answer Value : Type 0} {core : Core (Answer × Value)} {plain : Answer → List ℕ} {own : List ℕ} {words : List Check} {limit : ℕ} {before : Value}
    → Lawful core (λ a. plain a.0) own words → core.results ≡ [] → ((r : Refusal) → (core.refused r).1 ≡ before)
    → EveryCall limit plain (λ s. call_checks limit s words) before (λ s a value s'. CallDone limit core [] s (a, value) [] s')
every-call-value {Answer} {Value} {limit = limit} law q back =
    let every = every-call-none law {limit = limit} q in
    record {
      replies = λ s. let (a, left, s', d) = every.replies s in (a.0, a.1, s', d);
      one = λ s t s' t' a b left right e c d. let p = (every.one s t s' t' (a, left) (b, right) tt tt e c d).0 in
          (ap (λ (x : Answer × Value). x.0) p, ap (λ (x : Answer × Value). x.1) p);
      by_numbers = λ s s' a left d. every.by_numbers s s' (a, left) tt d;
      keeps = λ s s' a left d n. let r = done_refused law d n in ap (λ (x : Answer × Value). x.1) r.reply ∙ back r.by;
      scratch = λ s s' a left d. every.scratch s s' (a, left) tt d;
    }

-- ---- what a call does not depend on

verdicts-alike : {Answer : Type 0} (core : Core Answer) (limit : ℕ) (outs₁ outs₂ : List (List ℕ)) (s₁ s₂ : List ℕ) → Alike limit s₁ s₂
    → ((i : ℕ) → Alike (length (buffer core.results i)) (buffer outs₁ i) (buffer outs₂ i))
    → call_verdict limit core outs₁ (length s₁) ≡ call_verdict limit core outs₂ (length s₂)
unfolding call_verdict words_verdict
verdicts-alike core limit outs₁ outs₂ s₁ s₂ a h =
    let scratch : scratch_fault limit (length s₁) ≡ scratch_fault limit (length s₂)
    = judges-same _ _ _ (scratch-judged limit (length s₁) _ Iff.rfl) (scratch-judged limit (length s₂) _ a) in
    let output : output_fault core.results outs₁ ≡ output_fault core.results outs₂
    = judges-same _ _ _ (output-judged _ outs₁ _ Iff.rfl) (output-judged _ outs₂ _ (λ r i. (h i).0 (r i), λ r i. (h i).1 (r i))) in
    rw (scratch, output)

pub independent : {Answer : Type 0} {core : Core Answer} {plain : Answer → List ℕ} {own : List ℕ} {words : List Check} (limit : ℕ)
    → Lawful core plain own words → BuffersUnread core limit plain
independent {core = core} limit law outs₁ outs₂ outs₁' outs₂' s₁ s₂ s₁' s₂' a₁ a₂ a h c d =
    let same : a₁ ≡ a₂ = c.reply ∙ ap (answer_of core) (verdicts-alike core limit outs₁ outs₂ s₁ s₂ a h) ∙ sym d.reply in
    (same, λ z i. front i outs₁ outs₁' ((done-zero law c z).written i) ∙ sym (front i outs₂ outs₂' ((done-zero law d (rw same at z)).written i)))
  where
    front : (i : ℕ) (outs outs' : List (List ℕ)) → buffer outs' i ≡ written_over (buffer core.results i) (buffer outs i)
        → take (length (buffer core.results i)) (buffer outs' i) ≡ buffer core.results i
    front i outs outs' w = rw w (written-front (buffer core.results i) (buffer outs i))

pub same-from-any-limit : {Answer : Type 0} (core : Core Answer) (limit₁ limit₂ : ℕ) → SameFromAnyLimit core limit₁ limit₂
same-from-any-limit core limit₁ limit₂ outs outs₁' outs₂' s₁ s₂ s₁' s₂' a₁ a₂ l m c d =
    let same = call-enough core outs limit₁ (length s₁) l ∙ sym (call-enough core outs limit₂ (length s₂) m) in
    (c.reply ∙ ap (answer_of core) same ∙ sym d.reply, c.written ∙ ap (λ (v : Verdict). outs_after v core.results outs) same ∙ sym d.written)
