-- The functions that borrow no scratch: each is a call that is lent none and asks for none.
use Rattle.scan.proofs.Basics.{ℕ, arith, refl, sym, ◌∙◌, inr, ⊎_elim, List, [], ◌∷◌}
use Rattle.scan.proofs.Front.{cleared-whole}
use Rattle.refusal.specs.Checks.{Check}
use Rattle.lending.specs.Call.{Core, CallDone, WordsDone}
use Rattle.lending.specs.Demands.{call_checks, ByChecks, EveryCall, EveryReading}
use Rattle.lending.proofs.Lent.{scratch-enough}
use Rattle.lending.proofs.Laws.{call-enough, served}

-- what is done with no scratch is done by a call that asks for none
pub no-scratch : {Answer : Type 0} {core : Core Answer} {outs outs' : List (List ℕ)} {a : Answer} → WordsDone core outs a outs' → CallDone 0 core outs [] a outs' []
no-scratch d = served (scratch-enough 0 0 (omega arith)) d (sym (cleared-whole 0 [] (omega arith)))

pub of_words : {Answer : Type 0} {core : Core Answer} {outs outs' : List (List ℕ)} {a : Answer} {s' : List ℕ} → CallDone 0 core outs [] a outs' s' → WordsDone core outs a outs'
of_words {core = core} {outs = outs} d =
    let e = call-enough core outs 0 0 (omega arith) in
    record { reply = d.reply ∙ rw e refl; written = d.written ∙ rw e refl }

-- and 21 is then never the answer
by-words : {checks : List Check} {plain : List ℕ} → ByChecks (call_checks 0 [] checks) plain → ByChecks checks plain
by-words b = record {
  zero = (λ z. (b.zero.0 z).1, λ p. b.zero.1 (omega arith, p));
  nothing = b.nothing;
  named = λ n. let (r, f, e) = b.named n in (r, ⊎_elim (λ (m, q). absurd (m (omega arith))) (λ (l, g). g) f, e);
  this = λ r f. b.this r (inr (omega arith, f));
}

module _ {Answer Left : Type 0} {plain : Answer → List ℕ} {rest : List Check} {before : Left} {Call : List ℕ → Answer → Left → List ℕ → Type 0} {Words : Answer → Left → Type 0}
    (to : (a : Answer) (left : Left) → Words a left → Call [] a left []) (from : (a : Answer) (left : Left) (s' : List ℕ) → Call [] a left s' → Words a left) where
  pub reading : EveryCall 0 plain (λ s. call_checks 0 s rest) before Call → EveryReading plain rest before Words
  reading e = record {
    replies = let (a, left, s', d) = e.replies [] in (a, left, from a left s' d);
    one = λ a b left right c d. e.one [] [] [] [] a b left right refl (to a left c) (to b right d);
    by_numbers = λ a left d. by-words (e.by_numbers [] [] a left (to a left d));
    keeps = λ a left d n. e.keeps [] [] a left (to a left d) n;
  }

-- with one output buffer, and with two
module _ {Answer : Type 0} {core : Core Answer} {plain : Answer → List ℕ} {rest : List Check} where
  pub reads-one : {out : List ℕ} → EveryCall 0 plain (λ s. call_checks 0 s rest) out (λ s a left s'. CallDone 0 core (out ∷ []) s a (left ∷ []) s')
      → EveryReading plain rest out (λ a left. WordsDone core (out ∷ []) a (left ∷ []))
  reads-one e = reading (λ a left d. no-scratch d) (λ a left s' d. of_words d) e

  pub reads_two : {one two : List ℕ}
      → EveryCall {Left = List ℕ × List ℕ} 0 plain (λ s. call_checks 0 s rest) (one, two) (λ s a left s'. CallDone 0 core (one ∷ two ∷ []) s a (left.0 ∷ left.1 ∷ []) s')
      → EveryReading {Left = List ℕ × List ℕ} plain rest (one, two) (λ a left. WordsDone core (one ∷ two ∷ []) a (left.0 ∷ left.1 ∷ []))
  reads_two e = reading (λ a left d. no-scratch d) (λ a left s' d. of_words d) e
