-- A call over bytes does as the word call on the decoded words, whatever the buffers held that it writes. Shown of any core.
use Rattle.std.specs.Prelude.{Err, Ok}
use Rattle.scan.proofs.Basics.{ℕ, ◌≤◌, arith, ◌≡◌, refl, sym, ap, ◌∙◌, List, [], ◌∷◌, length, take}
use Rattle.scan.proofs.Tests.{by_less}
use Rattle.refusal.specs.Refusal.{number_of, Verdict, refusal_number}
use Rattle.refusal.specs.Checks.{Check}
use Rattle.refusal.specs.declared.Refusal.{Refusal}
use Rattle.refusal.specs.Limits.{scratch_limit}
use Rattle.lending.specs.Call.{Core, buffer, output_fault, words_verdict, call_verdict, answer_of}
use Rattle.lending.specs.Demands.{number}
use Rattle.lending.proofs.Laws.{call-enough}
use Rattle.lending.proofs.Judged.{Lawful, answer-number, refusal-number}
use Rattle.lending.proofs.Done.{done-zero, written-front}
use Rattle.octets.specs.Words.{all_words}
use Rattle.octets.specs.Bytes.{bytes_over}
use Rattle.octets.proofs.Decoding.{words_count}
use Rattle.firmware.specs.Bytes.{scratch_bytes, reply_bytes, broken_fault, over_bytes, bytes_verdict, bytes_answer, out_after, BytesDone}
use Rattle.firmware.specs.Demands.{Whole, AsWords, Unread}
use Rattle.firmware.proofs.Early.{answer-same}
use Rattle.firmware.proofs.Judged.{broken-judged, bytes-law}

-- 22 goes by the length alone
output-alike : (results : List (List ℕ)) (a b : List ℕ) → length a ≡ length b → output_fault results (a ∷ []) ≡ output_fault results (b ∷ [])
unfolding output_fault
output-alike [] a b e = refl
output-alike (result ∷ results) a b e = rw e

-- past 21 and 31
pub words-verdict : {Answer : Type 0} (core : Core Answer) (net sheet firings : ℕ) (out : List ℕ) (lent : ℕ) → Whole net sheet firings → scratch_bytes ≤ lent
    → bytes_verdict (over_bytes (broken_fault net sheet firings) core) out lent ≡ words_verdict core (all_words out ∷ [])
unfolding bytes_verdict words_verdict
words-verdict core net sheet firings out lent w l =
    let whole = (broken-judged net sheet firings).accepts.1 (w, tt) in
    call-enough (over_bytes (broken_fault net sheet firings) core) (all_words out ∷ []) scratch_bytes lent l ∙ rw whole

module _ {Answer : Type 0} {core : Core Answer} {six : Answer → List ℕ} {own : List ℕ} {words : List Check} (net sheet firings : ℕ) (law : Lawful core six own words) where
  abbrev over_words : Core Answer
  over_words = over_bytes (broken_fault net sheet firings) core

  -- ---- as the word call

  pub as-words : AsWords over_words core six (Whole net sheet firings)
  as-words out s p out' s' p' scratch scratch' outs' r answer w ls lp lw d c = (
    (d.enough lp).returned ∙ ap (λ (a : Answer). number (six a)) same,
    (d.enough lp).replied ∙ ap (λ (a : Answer). bytes_over 8 (six a) p) same,
    written (words_verdict core
        (all_words out ∷ [])) refl,
  )
    where
      enough : call_verdict scratch_limit core (all_words out ∷ []) (length scratch) ≡ words_verdict core (all_words out ∷ [])
      enough = call-enough core (all_words out ∷ []) scratch_limit (length scratch) lw

      same : bytes_answer over_words out (length s) ≡ answer
      same =
          ap (answer_of over_words) (words-verdict core net sheet firings out (length s) w ls) ∙ answer-same core (broken_fault net sheet firings) (words_verdict core (all_words out ∷ []))
          ∙ sym (c.reply ∙ ap (answer_of core) enough)

      zero : r ≡ 0 → number (six answer) ≡ 0
      zero z = sym ((d.enough lp).returned ∙ ap (λ (a : Answer). number (six a)) same) ∙ z

      written : (v : Verdict) → words_verdict core (all_words out ∷ []) ≡ v → r ≡ 0 → out' ≡ bytes_over 4 (take (length (buffer core.results 0)) (buffer outs' 0)) out
      written (Ok tt) e z =
          let f = (d.enough lp).written ∙ ap (λ (v : Verdict). out_after v (buffer core.results 0) out) (words-verdict core net sheet firings out (length s) w ls ∙ e) in
          f ∙ rw ((done-zero law c (zero z)).written 0, written-front (buffer core.results 0) (buffer (all_words out ∷ []) 0)) refl
      written (Err x) e z =
          let n = (refusal-number law scratch_limit (all_words out ∷ []) scratch x (enough ∙ e)).0 in
          let q = answer-number law (words_verdict core (all_words out ∷ [])) ∙ ap number_of e in
          let k = ap (λ (a : Answer). number (six a)) (c.reply ∙ ap (answer_of core) enough) in
          let h = zero z in
          absurd (omega arith)

  -- ---- what the buffers held

  verdict-alike : (o₁ o₂ : List ℕ) (lent₁ lent₂ : ℕ) → length o₁ ≡ length o₂ → lent₁ ≡ lent₂ → bytes_verdict over_words o₁ lent₁ ≡ bytes_verdict over_words o₂ lent₂
  unfolding bytes_verdict call_verdict words_verdict
  verdict-alike o₁ o₂ lent₁ lent₂ eo es =
      let fits = output-alike over_words.results (all_words o₁) (all_words o₂) (omega (arith, words_count o₁, words_count o₂)) in
      rw (es, fits)

  proper-refusal : (out s : List ℕ) (x : Refusal) → bytes_verdict over_words out (length s) ≡ Err x → 1 ≤ refusal_number x
  unfolding bytes_verdict
  proper-refusal out s x e = (refusal-number (bytes-law net sheet firings law) scratch_bytes (all_words out ∷ []) s x e).0

  -- 0 was returned: the result was written
  zero-writes : (out s p : List ℕ) (r : ℕ) (out' s' p' : List ℕ) → BytesDone over_words six out s p r out' s' p' → r ≡ 0 → out' ≡ bytes_over 4 (buffer core.results 0) out
  zero-writes out s p r out' s' p' d z =
      by_less (length p) 48 (λ l. let q = (d.small l).returned in absurd (omega arith)) (λ l. go l (bytes_verdict over_words out (length s)) refl)
    where
      go : reply_bytes ≤ length p → (v : Verdict) → bytes_verdict over_words out (length s) ≡ v → out' ≡ bytes_over 4 (buffer core.results 0) out
      go l (Ok tt) e = (d.enough l).written ∙ rw e
      go l (Err x) e =
          let n = proper-refusal out s x e in
          let q = (d.enough l).returned ∙ answer-number (bytes-law net sheet firings law) (bytes_verdict over_words out (length s)) ∙ ap number_of e in
          absurd (omega arith)

  pub unread : Unread over_words six
  unread o₁ o₂ s₁ s₂ p₁ p₂ o₁' o₂' s₁' s₂' p₁' p₂' r₁ r₂ eo es ep c d =
      (same, replied, λ z. (buffer core.results 0, zero-writes o₁ s₁ p₁ r₁ o₁' s₁' p₁' c z, zero-writes o₂ s₂ p₂ r₂ o₂' s₂' p₂' d (sym same ∙ z)))
    where
      answers : bytes_answer over_words o₁ (length s₁) ≡ bytes_answer over_words o₂ (length s₂)
      answers = ap (answer_of over_words) (verdict-alike o₁ o₂ (length s₁) (length s₂) eo es)

      same : r₁ ≡ r₂
      same = by_less (length p₁) 48 (λ l. (c.small l).returned ∙ sym (d.small (omega arith)).returned)
          (λ l. (c.enough l).returned ∙ ap (λ (a : Answer). number (six a)) answers ∙ sym (d.enough (omega arith)).returned)

      replied : reply_bytes ≤ length p₁ → (told : List ℕ) × (p₁' ≡ bytes_over 8 told p₁) × (p₂' ≡ bytes_over 8 told p₂)
      replied l = (
        six (bytes_answer over_words o₁ (length s₁)),
        (c.enough l).replied,
        (d.enough (omega arith)).replied ∙ ap (λ (a : Answer). bytes_over 8 (six a) p₂) (sym answers),
      )
