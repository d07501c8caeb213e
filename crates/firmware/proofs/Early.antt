-- 21 and 31 are asked before a word is read, and then the word call: the answer, and the paths of a call.
use Rattle.std.specs.Prelude.{Err, Ok}
use Rattle.refusal.specs.declared.Reason.TheVariants.{BrokenWord, SmallScratch}
use Rattle.scan.proofs.Basics.{ℕ, ◌%◌, ◌≤◌, ◌<◌, arith, ◌≡◌, refl, sym, ap, ◌∙◌, List, [], ◌∷◌, ◌++◌, length, take, drop, replicate}
use Rattle.scan.proofs.Tests.{lt-ltb, le-ltb, eq-eqb, ne_eqb}
use Rattle.scan.specs.Scan.{when}
use Rattle.scan.proofs.Front.{cleared-front}
use Rattle.refusal.specs.Refusal.{refusal, Verdict}
use Rattle.refusal.specs.Verdict.{and_then}
use Rattle.refusal.specs.declared.Position.TheVariants.{Nothing}
use Rattle.refusal.specs.declared.Refusal.{Refusal}
use Rattle.lending.specs.Call.{Core, scratch_fault, scratch_at_return, words_verdict, call_verdict, answer_of}
use Rattle.octets.specs.Words.{all_words}
use Rattle.octets.specs.Bytes.{bytes_over}
use Rattle.firmware.specs.Bytes.{scratch_bytes, is_broken, broken_fault, over_bytes, bytes_verdict, BytesDone}
use Rattle.lending.specs.Demands.{number}
use Rattle.firmware.specs.Parts.{early_verdict, Written, Served}

-- ---- what is asked of lengths

module _ (lent net sheet firings : ℕ) where
  pub early-small : lent < scratch_bytes → Err (refusal SmallScratch Nothing) ≡ early_verdict lent net sheet firings
  unfolding early_verdict scratch_fault when
  early-small l = rw (lt-ltb lent scratch_bytes l)

  module _ (room : scratch_bytes ≤ lent) where
    pub early-net : (net % 4 ≡ 0 → ⊥) → Err (refusal BrokenWord Nothing) ≡ early_verdict lent net sheet firings
    unfolding early_verdict broken_fault scratch_fault when is_broken
    early-net n = rw (le-ltb lent scratch_bytes room, ne_eqb (net % 4) 0 n)

    pub early-sheet : net % 4 ≡ 0 → (sheet % 4 ≡ 0 → ⊥) → Err (refusal BrokenWord Nothing) ≡ early_verdict lent net sheet firings
    unfolding early_verdict broken_fault scratch_fault when is_broken
    early-sheet e n = rw (le-ltb lent scratch_bytes room, eq-eqb (net % 4) 0 e, ne_eqb (sheet % 4) 0 n)

    pub early-record : net % 4 ≡ 0 → sheet % 4 ≡ 0 → (firings % 4 ≡ 0 → ⊥) → Err (refusal BrokenWord Nothing) ≡ early_verdict lent net sheet firings
    unfolding early_verdict broken_fault scratch_fault when is_broken
    early-record e f n = rw (le-ltb lent scratch_bytes room, eq-eqb (net % 4) 0 e, eq-eqb (sheet % 4) 0 f, ne_eqb (firings % 4) 0 n)

    pub early-whole : net % 4 ≡ 0 → sheet % 4 ≡ 0 → firings % 4 ≡ 0 → Ok tt ≡ early_verdict lent net sheet firings
    unfolding early_verdict broken_fault scratch_fault when is_broken
    early-whole e f g = rw (le-ltb lent scratch_bytes room, eq-eqb (net % 4) 0 e, eq-eqb (sheet % 4) 0 f, eq-eqb (firings % 4) 0 g)

-- ---- then what the word call answers

module _ {Answer : Type 0} (core : Core Answer) where
  pub early-first : (lent net sheet firings : ℕ) (out : List ℕ)
      → bytes_verdict (over_bytes (broken_fault net sheet firings) core) out lent ≡ and_then (early_verdict lent net sheet firings) (words_verdict core (all_words out ∷ []))
  unfolding bytes_verdict call_verdict words_verdict early_verdict
  early-first lent net sheet firings out = regroup (scratch_fault scratch_bytes lent) (broken_fault net sheet firings) core.verdict _
    where
      regroup : (a b c d : Verdict) → and_then a (and_then (and_then b c) d) ≡ and_then (and_then a b) (and_then c d)
      regroup (Ok tt) (Ok u) c d = refl
      regroup (Ok tt) (Err r) c d = refl
      regroup (Err r) b c d = refl

  pub answer-same : (broken v : Verdict) → answer_of (over_bytes broken core) v ≡ answer_of core v
  answer-same broken (Ok tt) = refl
  answer-same broken (Err r) = refl

module _ {Answer : Type 0} (core : Core Answer) (lent net sheet firings : ℕ) {out : List ℕ} {v : Verdict} (q : v ≡ early_verdict lent net sheet firings) where
  pub served-early : {r : Refusal} {a : Answer} → v ≡ Err r → a ≡ core.refused r → Served (over_bytes (broken_fault net sheet firings) core) lent out a out
  served-early {r} e h =
      let f : bytes_verdict (over_bytes (broken_fault net sheet firings) core) out lent ≡ Err r = early-first core lent net sheet firings out ∙ rw (← q, e) in
      record { answered = rw f h; written = rw f }

  pub served-words : {a : Answer} {out' : List ℕ} → v ≡ Ok tt → Written core out a out' → Served (over_bytes (broken_fault net sheet firings) core) lent out a out'
  served-words {a} e w =
      let f : bytes_verdict (over_bytes (broken_fault net sheet firings) core) out lent ≡ words_verdict core (all_words out ∷ [])
      = early-first core lent net sheet firings out ∙ rw (← q, e) in
      let g : answer_of (over_bytes (broken_fault net sheet firings) core) (words_verdict core (all_words out ∷ [])) ≡ a
      = answer-same core (broken_fault net sheet firings) (words_verdict core (all_words out ∷ [])) ∙ sym w.answered in
      record { answered = rw (f, g); written = rw f w.written }

-- ---- what is left

pub scratch-small : (s : List ℕ) → length s < scratch_bytes → s ≡ scratch_at_return scratch_bytes s
unfolding scratch_at_return
scratch-small s l = rw (lt-ltb _ _ l)

pub scratch-cleared : (s : List ℕ) → scratch_bytes ≤ length s → replicate (length (take scratch_bytes s)) 0 ++ drop scratch_bytes s ≡ scratch_at_return scratch_bytes s
unfolding scratch_at_return
scratch-cleared s l = rw (le-ltb _ _ l) (cleared-front scratch_bytes scratch_bytes s (omega arith))

module _ {Answer : Type 0} {core : Core Answer} {six : Answer → List ℕ} {out scratch reply : List ℕ} where
  pub done-small : length reply < 48 → BytesDone core six out scratch reply 21 out scratch reply
  done-small l = record { small = λ h. record { returned = refl; written = refl; scratch_after = refl; replied = refl }; enough = λ h. absurd (omega arith) }

  pub done-enough : {a : Answer} {r : ℕ} {out' scratch' reply' : List ℕ} → 48 ≤ length reply → Served core (length scratch) out a out'
      → (r ≡ number (six a)) × (scratch' ≡ scratch_at_return scratch_bytes scratch) × (reply' ≡ bytes_over 8 (six a) reply) → BytesDone core six out scratch reply r out' scratch' reply'
  done-enough l d (n, w, p) = record {
    small = λ h. absurd (omega arith);
    enough = λ h. record {
      returned = n ∙ ap (λ (x : Answer). number (six x)) d.answered;
      replied = p ∙ ap (λ (x : Answer). bytes_over 8 (six x) reply) d.answered;
      written = d.written;
      scratch_after = w;
    };
  }
