-- A call over bytes follows its checks: 21, 31, those of the decoded words, and 22 last. Shown of any core.
use Rattle.std.specs.Prelude.{Err, Ok}
use Rattle.refusal.specs.declared.Reason.TheVariants.{BrokenWord}
use Rattle.scan.proofs.Basics.{ℕ, ◌%◌, ◌≤◌, ◌<◌, arith, ◌≡◌, refl, sym, ap, ◌∙◌, ◌⊎◌, inl, inr, ⊎_elim, ◌↔◌, true, false, ◌||◌, eqb, List, [], ◌∷◌, length}
use Rattle.scan.proofs.Tests.{by_less, eqb-true, eq-eqb, decides_not, or-none-left, or-none-right}
use Rattle.scan.specs.Scan.{when}
use Rattle.refusal.specs.Refusal.{refusal, number_of, Verdict, refusal_number}
use Rattle.refusal.specs.Checks.{Check, once, AllPass, FirstFails}
use Rattle.refusal.specs.declared.Position.TheVariants.{Nothing}
use Rattle.refusal.specs.declared.Refusal.{Refusal}
use Rattle.refusal.proofs.Checks.{says-when, Tells}
use Rattle.refusal.proofs.Judges.{Judges, judges-found, judges-then, without, without-spared, spared-never}
use Rattle.lending.specs.Call.{Core, CallDone, buffer, words_verdict, outs_after, scratch_at_return}
use Rattle.lending.specs.Demands.{number, ByChecks, ScratchLeft}
use Rattle.lending.proofs.Judged.{Lawful, call-judged, answer-number, refusal-number}
use Rattle.lending.proofs.Done.{by-checks, plain-length, scratch-left}
use Rattle.lending.proofs.Demands.{replies}
use Rattle.octets.specs.Words.{all_words}
use Rattle.octets.specs.Bytes.{bytes_over}
use Rattle.firmware.specs.Bytes.{scratch_bytes, reply_bytes, is_broken, broken_fault, over_bytes, bytes_verdict, bytes_answer, out_after, BytesDone}
use Rattle.firmware.specs.Demands.{Whole, bytes_checks, EveryBytesCall}

-- ---- 31

module _ (net sheet firings : ℕ) where
  whole↔ : ((is_broken net || (is_broken sheet || is_broken firings)) ≡ false) ↔ Whole net sheet firings
  unfolding is_broken
  whole↔ = (
    λ e. let rest = or-none-right (is_broken net) _ e in
        ((part net).0 (or-none-left (is_broken net) _ e), (part sheet).0 (or-none-left (is_broken sheet) _ rest), (part firings).0 (or-none-right (is_broken sheet) _ rest)),
    λ (a, b, c). rw ((part net).1 a, (part sheet).1 b, (part firings).1 c) refl,
  )
    where
      part : (n : ℕ) → (is_broken n ≡ false) ↔ (n % 4 ≡ 0)
      part n = decides_not (eqb (n % 4) 0) (eqb-true _ _) (eq-eqb _ _)

  broken-tells : Tells (when (is_broken net || (is_broken sheet || is_broken firings)) (refusal BrokenWord Nothing)) (once (Whole net sheet firings) BrokenWord ∷ [])
  broken-tells =
      let s = says-when (is_broken net || (is_broken sheet || is_broken firings)) (refusal BrokenWord Nothing) whole↔ in
      record {
        passes = (λ e. (s.passes.0 e, tt), λ (p, u). s.passes.1 p);
        fails = λ r. (λ e. inl ((s.fails r).0 e), ⊎_elim (λ f. (s.fails r).1 f) (λ (p, b). absurd b));
      }

  pub broken-judged : Judges (broken_fault net sheet firings) (once (Whole net sheet firings) BrokenWord ∷ [])
  unfolding broken_fault
  broken-judged = judges-found _ _ broken-tells

  -- a core that asks 31 first is lawful where the word call's is
  pub bytes-law : {Answer : Type 0} {core : Core Answer} {six : Answer → List ℕ} {own : List ℕ} {words : List Check} → Lawful core six own words
      → Lawful (over_bytes (broken_fault net sheet firings) core) six own (once (Whole net sheet firings) BrokenWord ∷ words)
  bytes-law {words = words} law = record {
    judged = judges-then (broken_fault net sheet firings) _ (once (Whole net sheet firings) BrokenWord ∷ []) words broken-judged (λ p. law.judged);
    proper = law.proper;
    plain-accepted = law.plain-accepted;
    own-length = law.own-length;
    plain-refused = law.plain-refused;
  }

-- ---- a call done

module _ (net sheet firings : ℕ) (out : List ℕ) {Answer : Type 0} {core : Core Answer} {six : Answer → List ℕ} {own : List ℕ} {words rest : List Check}
    (law : Lawful core six own words) (j : Judges (words_verdict (over_bytes (broken_fault net sheet firings) core) (all_words out ∷ [])) (once (Whole net sheet firings) BrokenWord ∷ rest))
    (none31 : without 31 rest ≡ true) where
  abbrev over : Core Answer
  over = over_bytes (broken_fault net sheet firings) core

  -- the call over words that does as much
  answered : (s : List ℕ) → CallDone scratch_bytes over (all_words out ∷ []) s (bytes_answer over out (length s))
      (outs_after (bytes_verdict over out (length s)) over.results (all_words out ∷ [])) (scratch_at_return scratch_bytes s)
  unfolding bytes_verdict
  answered s = replies scratch_bytes over (all_words out ∷ []) s

  judged : (s : List ℕ) → Judges (bytes_verdict over out (length s)) (bytes_checks s (Whole net sheet firings) rest)
  unfolding bytes_verdict
  judged s = call-judged over (all_words out ∷ []) scratch_bytes s j

  module _ (s p : List ℕ) (r : ℕ) (out' s' p' : List ℕ) (d : BytesDone over six out s p r out' s' p') where
    value : reply_bytes ≤ length p → (v : Verdict) → bytes_verdict over out (length s) ≡ v → r ≡ number_of v
    value l v e = (d.enough l).returned ∙ answer-number (bytes-law net sheet firings law) (bytes_verdict over out (length s)) ∙ ap number_of e

    numbers : reply_bytes ≤ length p
        → (plain : List ℕ) × (length plain ≡ 6) × ByChecks (bytes_checks s (Whole net sheet firings) rest) plain × (r ≡ number plain) × (p' ≡ bytes_over 8 plain p)
    numbers l = (
      six (bytes_answer over out (length s)),
      plain-length (bytes-law net sheet firings law) (answered s),
      by-checks (bytes-law net sheet firings law) (answered s) j,
      (d.enough l).returned,
      (d.enough l).replied,
    )

    -- the refusals of number 21, and those of number 31
    by-21 : (x : Refusal) → bytes_verdict over out (length s) ≡ Err x → (refusal_number x ≡ 21) ↔ (length s < scratch_bytes)
    unfolding bytes_verdict
    by-21 x e = (refusal-number (bytes-law net sheet firings law) scratch_bytes (all_words out ∷ []) s x e).1

    by-31 : (x : Refusal) → FirstFails (bytes_checks s (Whole net sheet firings) rest) x → refusal_number x ≡ 31 → (scratch_bytes ≤ length s) × (Whole net sheet firings → ⊥)
    by-31 x f e =
        ⊎_elim (λ (n, q). let k : refusal_number x ≡ 21 = ap refusal_number q in absurd (omega arith))
        (λ (l, g). ⊎_elim (λ (n, q). (l, n)) (λ (w, h). absurd (spared-never 31 rest x (without-spared 31 rest none31) h e)) g) f

    small : (r ≡ 21) ↔ ((length p < reply_bytes) ⊎ (length s < scratch_bytes))
    small = by_less (length p) 48 (λ l. (λ e. inl l, λ h. (d.small l).returned)) (λ l. go l (bytes_verdict over out (length s)) refl)
      where
        go : reply_bytes ≤ length p → (v : Verdict) → bytes_verdict over out (length s) ≡ v → (r ≡ 21) ↔ ((length p < reply_bytes) ⊎ (length s < scratch_bytes))
        go l (Ok tt) e =
            let z = value l (Ok tt) e in
            let m = ((judged s).accepts.0 e).0 in
            (λ q. absurd (omega arith), ⊎_elim (λ h. absurd (omega arith)) (λ h. absurd (omega arith)))
        go l (Err x) e =
            let z = value l (Err x) e in
            let (f, g) = by-21 x e in
            (λ q. inr (f (omega arith)), ⊎_elim (λ h. absurd (omega arith)) (λ h. z ∙ g h))

    broken : (r ≡ 31) ↔ ((reply_bytes ≤ length p) × (scratch_bytes ≤ length s) × (Whole net sheet firings → ⊥))
    broken = by_less (length p) 48 (λ l. let z = (d.small l).returned in (λ e. absurd (omega arith), λ (h, m, n). absurd (omega arith)))
        (λ l. go l (bytes_verdict over out (length s)) refl)
      where
        go : reply_bytes ≤ length p → (v : Verdict) → bytes_verdict over out (length s) ≡ v
            → (r ≡ 31) ↔ ((reply_bytes ≤ length p) × (scratch_bytes ≤ length s) × (Whole net sheet firings → ⊥))
        go l (Ok tt) e =
            let z = value l (Ok tt) e in
            let all = (judged s).accepts.0 e in
            (λ q. absurd (omega arith), λ (h, m, n). absurd (n all.1.0))
        go l (Err x) e =
            let z = value l (Err x) e in (
              λ q. let (a, b) = by-31 x (((judged s).refuses x).0 e) (sym z ∙ q) in (l, a, b),
              λ (h, m, n). let k = ((judged s).refuses (refusal BrokenWord Nothing)).1 (inr (m, inl (n, refl))) in z ∙ ap number_of (sym e ∙ k),
            )

    keeps : (r ≡ 0 → ⊥) → out' ≡ out
    keeps n = by_less (length p) 48 (λ l. (d.small l).written) (λ l. go l (bytes_verdict over out (length s)) refl)
      where
        go : reply_bytes ≤ length p → (v : Verdict) → bytes_verdict over out (length s) ≡ v → out' ≡ out
        go l (Ok tt) e = absurd (n (value l (Ok tt) e))
        go l (Err x) e = (d.enough l).written ∙ rw e

    -- the scratch of the call over words that does as much
    scratch : reply_bytes ≤ length p → ScratchLeft scratch_bytes r s s'
    scratch l = rw ((d.enough l).returned, (d.enough l).scratch_after) (scratch-left (bytes-law net sheet firings law) (answered s))

    untouched : length p < reply_bytes → (s' ≡ s) × (p' ≡ p)
    untouched l = ((d.small l).scratch_after, (d.small l).replied)

  pub every-bytes : EveryBytesCall (λ s. bytes_checks s (Whole net sheet firings) rest) (Whole net sheet firings) out (BytesDone over six out)
  every-bytes = record {
    replies = λ s p. by_less (length p) 48
        (λ l. (21, out, s, p, record { small = λ h. record { returned = refl; written = refl; scratch_after = refl; replied = refl }; enough = λ h. absurd (omega arith) }))
        (λ l. (_, _, _, _, record { small = λ h. absurd (omega arith); enough = λ h. record { returned = refl; replied = refl; written = refl; scratch_after = refl } }));
    one = λ s₁ s₂ p₁ p₂ r₁ r₂ out₁ out₂ s₁' s₂' p₁' p₂' e f c d. by_less (length p₁) 48
        (λ l. let a = c.small l in let b = d.small (omega arith) in (a.returned ∙ sym b.returned, a.written ∙ sym b.written))
        (λ l. let a = c.enough l in let b = d.enough (omega arith) in (
          a.returned ∙ ap (λ (n : ℕ). number (six (bytes_answer over out n))) e ∙ sym b.returned,
          a.written ∙ ap (λ (n : ℕ). out_after (bytes_verdict over out n) (buffer over.results 0) out) e ∙ sym b.written,
        ));
    by_numbers = numbers;
    small = small;
    broken = broken;
    keeps = keeps;
    scratch = scratch;
    untouched = untouched;
  }

  -- 0 exactly where all pass
  pub zero-passes : (s p out' s' p' : List ℕ) → BytesDone over six out s p 0 out' s' p' → (reply_bytes ≤ length p) × AllPass (bytes_checks s (Whole net sheet firings) rest)
  zero-passes s p out' s' p' d =
      by_less (length p) 48 (λ l. let z : ◌≡◌ {A = ℕ} 0 21 = (d.small l).returned in absurd (omega arith))
      (λ l. let (plain, six-long, by, e, q) = numbers s p 0 out' s' p' d l in (l, by.zero.0 (sym e)))

  pub passes-zero : (s p : List ℕ) (r : ℕ) (out' s' p' : List ℕ) → BytesDone over six out s p r out' s' p' → reply_bytes ≤ length p
      → AllPass (bytes_checks s (Whole net sheet firings) rest) → r ≡ 0
  passes-zero s p r out' s' p' d l a = let (plain, six-long, by, e, q) = numbers s p r out' s' p' d l in e ∙ by.zero.1 a

  -- then the result is there
  pub zero-written : (s p out' s' p' : List ℕ) → BytesDone over six out s p 0 out' s' p'
      → (out' ≡ bytes_over 4 (buffer core.results 0) out) × (p' ≡ bytes_over 8 (0 ∷ 0 ∷ 0 ∷ own) p)
  zero-written s p out' s' p' d =
      let (l, a) = zero-passes s p out' s' p' d in
      let e = (judged s).accepts.1 a in
      ((d.enough l).written ∙ rw e, (d.enough l).replied ∙ rw (e, law.plain-accepted))
