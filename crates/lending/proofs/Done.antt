-- What a call that is done says of its answer, its output buffers and its scratch, whatever its words are.
use Rattle.std.specs.Prelude.{Err, Ok}
use Rattle.scan.proofs.Basics.{ℕ, zero, suc, ◌+◌, ◌-◌, ◌≤◌, ◌<◌, arith, ◌≡◌, refl, sym, ap, ◌∙◌, ◌↔◌, true, ltb, List, [], ◌∷◌, length, get_or, take, length-append}
use mathlib.Core.Logic.Iff
use lib.ListN.{length-drop, get_or-eq_default}
use lib.Seq.{take-append_seam, get_or-append-add, get_or-drop}
use Rattle.scan.proofs.Tests.{ltb-true, ltb-false, by_test}
use Rattle.scan.specs.Scan.{tabulate}
use Rattle.scan.proofs.Front.{cleared-whole}
use Rattle.scan.proofs.Tabulate.{tabulate-length, tabulate-at}
use Rattle.refusal.specs.Refusal.{plain_refusal, plain_verdict, number_of, plain_position, Verdict, refusal_number}
use Rattle.refusal.specs.Checks.{Check}
use Rattle.refusal.specs.declared.Position.{Position}
use Rattle.refusal.specs.declared.Position.TheVariants.{Nothing, Entry, Place, Node, Record}
use Rattle.refusal.specs.declared.Refusal.{Refusal}
use Rattle.refusal.proofs.Verdicts.{then-accepted, accepted-refused}
use Rattle.refusal.proofs.Judges.{Judges, properly, fails-number}
use Rattle.lending.specs.Call.{Core, CallDone, buffer, scratch_fault, output_fault, words_verdict, call_verdict, answer_of, outs_after, written_over, written_at}
use Rattle.lending.specs.Demands.{number, own, call_checks, ByChecks, ScratchLeft}
use Rattle.lending.proofs.Lent.{Room, scratch-kept, scratch-cleared}
use Rattle.lending.proofs.Laws.{call-small}
use Rattle.lending.proofs.Judged.{Lawful, output-judged, call-judged, answer-number, refusal-number}

-- ---- an answer by its checks

number-zero : (plain : List ℕ) → take 3 plain ≡ 0 ∷ 0 ∷ 0 ∷ [] → number plain ≡ 0
number-zero [] e = refl
number-zero (x ∷ plain) e = cc

-- from a verdict that follows them, and what the numbers are for it
told-by : (v : Verdict) (checks : List Check) (plain : List ℕ) → Judges v checks → (v ≡ Ok tt → take 3 plain ≡ 0 ∷ 0 ∷ 0 ∷ [])
    → ((r : Refusal) → v ≡ Err r → (plain ≡ plain_refusal r) × (1 ≤ refusal_number r)) → ByChecks checks plain
told-by (Ok tt) checks plain j z t = record {
  zero = (λ e. j.accepts.0 refl, λ p. number-zero plain (z refl));
  nothing = λ e. z refl;
  named = λ n. absurd (n (number-zero plain (z refl)));
  this = λ r f. accepted-refused (Ok tt) r refl ((j.refuses r).1 f);
}
told-by (Err r) checks plain j z t =
    let (q, l) = t r refl in
    let e : number plain ≡ refusal_number r = ap number q in
    record {
      zero = (λ w. absurd (omega arith), λ p. accepted-refused (Err r) r (j.accepts.1 p) refl);
      nothing = λ w. absurd (omega arith);
      named = λ n. (r, (j.refuses r).0 refl, q);
      this = λ s f. let same : r ≡ s = cc ((j.refuses s).1 f) in q ∙ ap plain_refusal same;
    }

-- a verdict alone, as of a call that borrows nothing
pub verdict-by-checks : (v : Verdict) (checks : List Check) → Judges v checks → properly checks ≡ true → ByChecks checks (plain_verdict v)
verdict-by-checks v checks j p =
    told-by v checks (plain_verdict v) j (λ e. ap (λ (w : Verdict). take 3 (plain_verdict w)) e) (λ r e. (ap plain_verdict e, (fails-number checks r p ((j.refuses r).0 e)).0))

-- ---- plain numbers

zeros-at : (i : ℕ) → ◌≡◌ {A = ℕ} (get_or (0 ∷ 0 ∷ 0 ∷ []) i 0) 0
zeros-at zero = refl
zeros-at (suc zero) = refl
zeros-at (suc (suc zero)) = refl
zeros-at (suc (suc (suc i))) = refl

-- a position is told in two numbers
position-told : (at : Position) → (kind : ℕ) × (index : ℕ) × (plain_position at ≡ kind ∷ index ∷ [])
position-told Nothing = (0, 0, refl)
position-told (Entry i) = (1, i, refl)
position-told (Place i) = (2, i, refl)
position-told (Node i) = (3, i, refl)
position-told (Record i) = (4, i, refl)

past_three : (a b c : ℕ) (l : List ℕ) (i : ℕ) → own (a ∷ b ∷ c ∷ l) i ≡ get_or l i 0
past_three a b c l i = get_or-append-add (a ∷ b ∷ c ∷ []) l i 0

told-own : (r : Refusal) (i : ℕ) → own (plain_refusal r) i ≡ 0
told-own r i = let (kind, index, e) = position-told r.at in rw e (past_three (refusal_number r) kind index (0 ∷ 0 ∷ 0 ∷ []) i ∙ zeros-at i)

told-length : (r : Refusal) → length (plain_refusal r) ≡ 6
told-length r = let (kind, index, e) = position-told r.at in rw e refl

-- ---- output buffers

-- a buffer that is written over: the result in front, as it was past it, and as long as it was
module _ (result out : List ℕ) where
  pub written-front : take (length result) (written_over result out) ≡ result
  written-front = take-append_seam result _

  pub written-past : (i : ℕ) → length result ≤ i → get_or (written_over result out) i 0 ≡ get_or out i 0
  written-past i l =
      let q : i ≡ length result + (i - length result) = omega arith in
      rw q (get_or-append-add result _ (i - length result) 0 ∙ get_or-drop (length result) out (i - length result) 0)

  pub written-length : length result ≤ length out → length (written_over result out) ≡ length out
  written-length l = simp (length-append, length-drop) (omega arith)

no_words : (l : List ℕ) → length l ≤ 0 → l ≡ []
no_words [] h = refl
no_words (x ∷ l) h = absurd (omega arith)

-- each buffer of an accepted call, also one that is not there
written-buffer : (results outs : List (List ℕ)) → Room results outs → (i : ℕ) → buffer (outs_after (Ok tt) results outs) i ≡ written_over (buffer results i) (buffer outs i)
unfolding written_at
written-buffer results outs h i =
    let after = tabulate (written_at results outs) (length outs) in
    by_test (ltb i (length outs)) (λ e. tabulate-at (written_at results outs) [] (length outs) i (ltb-true _ _ e))
    (λ e. let l = ltb-false i (length outs) e in
    let o : buffer outs i ≡ [] = get_or-eq_default outs [] {n = i} l in
    let a : buffer after i ≡ [] = get_or-eq_default after [] {n = i} (rw (tabulate-length (written_at results outs) (length outs)) l) in
    let r : buffer results i ≡ [] = no_words _ (rw (ap length o) at (h i)) in
    a ∙ sym (rw (o, r) refl))

-- ---- a call done

-- what an answer with number 0 says
pub record Answered {Answer : Type 0} (core : Core Answer) (outs : List (List ℕ)) (answer : Answer) (outs' : List (List ℕ)) : Type 0 where
  pub passed : core.verdict ≡ Ok tt
  pub reply : answer ≡ core.accepted
  pub room : Room core.results outs
  pub written : (i : ℕ) → buffer outs' i ≡ written_over (buffer core.results i) (buffer outs i)

-- what an answer with another number says
pub record Kept {Answer : Type 0} (core : Core Answer) (outs : List (List ℕ)) (answer : Answer) (outs' : List (List ℕ)) : Type 0 where
  pub by : Refusal
  pub reply : answer ≡ core.refused by
  pub written : outs' ≡ outs

module _ {Answer : Type 0} {core : Core Answer} {plain : Answer → List ℕ} {ownNumbers : List ℕ} {words : List Check} (law : Lawful core plain ownNumbers words)
    {limit : ℕ} {outs outs' : List (List ℕ)} {scratch scratch' : List ℕ} {answer : Answer} (d : CallDone limit core outs scratch answer outs' scratch') where
  abbrev verdict : Verdict
  verdict = call_verdict limit core outs (length scratch)

  done-number : number (plain answer) ≡ number_of verdict
  done-number = ap (λ (a : Answer). number (plain a)) d.reply ∙ answer-number law verdict

  pub by-checks : {rest : List Check} → Judges (words_verdict core outs) rest → ByChecks (call_checks limit scratch rest) (plain answer)
  by-checks {rest} j =
      told-by verdict (call_checks limit scratch rest) (plain answer) (call-judged core outs limit scratch j)
      (λ e. ap (λ (p : List ℕ). take 3 p) (ap plain (d.reply ∙ ap (answer_of core) e) ∙ law.plain-accepted))
      (λ r e. (ap plain (d.reply ∙ ap (answer_of core) e) ∙ law.plain-refused r, (refusal-number law limit outs scratch r e).0))

  -- accepted or refused
  cases : {C : Type 0} → (number (plain answer) ≡ 0 → Answered core outs answer outs' → C)
      → ((number (plain answer) ≡ 0 → ⊥) → Kept core outs answer outs' → C) → C
  cases {C} f g = go verdict refl
    where
      passed : verdict ≡ Ok tt → (core.verdict ≡ Ok tt) × (output_fault core.results outs ≡ Ok tt)
      passed e = unfold call_verdict words_verdict in then-accepted core.verdict _ (then-accepted (scratch_fault limit (length scratch)) _ e).1

      room : verdict ≡ Ok tt → Room core.results outs
      room e = ((output-judged core.results outs _ Iff.rfl).accepts.0 (passed e).1).0

      go : (v : Verdict) → verdict ≡ v → C
      go (Ok tt) e = f (done-number ∙ ap number_of e) (record {
        passed = (passed e).0;
        reply = d.reply ∙ ap (answer_of core) e;
        room = room e;
        written = λ i. ap (λ (x : List (List ℕ)). buffer x i) (d.written ∙ ap (λ (v : Verdict). outs_after v core.results outs) e) ∙ written-buffer core.results outs (room e) i;
      })
      go (Err r) e = g (λ z. let n = (refusal-number law limit outs scratch r e).0 in let q = done-number ∙ ap number_of e in omega arith) (record {
        by = r;
        reply = d.reply ∙ ap (answer_of core) e;
        written = d.written ∙ ap (λ (v : Verdict). outs_after v core.results outs) e;
      })

  pub done-zero : number (plain answer) ≡ 0 → Answered core outs answer outs'
  done-zero z = cases (λ e a. a) (λ n a. absurd (n z))

  pub done_refused : (number (plain answer) ≡ 0 → ⊥) → Kept core outs answer outs'
  done_refused n = cases (λ e a. absurd (n e)) (λ m a. a)

  -- ---- its numbers

  pub own-answered : number (plain answer) ≡ 0 → (i : ℕ) → own (plain answer) i ≡ get_or ownNumbers i 0
  own-answered z i = ap (λ (p : List ℕ). own p i) (ap plain (done-zero z).reply ∙ law.plain-accepted) ∙ past_three _ _ _ ownNumbers i

  pub own-refused : (number (plain answer) ≡ 0 → ⊥) → (i : ℕ) → own (plain answer) i ≡ 0
  own-refused n i =
      let a = done_refused n in
      ap (λ (p : List ℕ). own p i) (ap plain a.reply ∙ law.plain-refused a.by) ∙ told-own a.by i

  pub plain-length : length (plain answer) ≡ 6
  plain-length =
      cases (λ z a. ap (λ (p : List ℕ). length p) (ap plain a.reply ∙ law.plain-accepted) ∙ omega (arith, law.own-length))
      (λ n a. ap (λ (p : List ℕ). length p) (ap plain a.reply ∙ law.plain-refused a.by) ∙ told-length a.by)

  -- ---- its scratch

  small-number : (number (plain answer) ≡ 21) ↔ (length scratch < limit)
  small-number = (λ e. go verdict refl (sym done-number ∙ e), λ l. done-number ∙ ap number_of (call-small core outs limit (length scratch) l))
    where
      go : (v : Verdict) → verdict ≡ v → number_of v ≡ 21 → length scratch < limit
      go (Ok tt) e z = absurd (omega arith)
      go (Err r) e z = (refusal-number law limit outs scratch r e).1.0 z

  pub scratch-left : ScratchLeft limit (number (plain answer)) scratch scratch'
  scratch-left = record {
    small = small-number;
    kept = λ e. d.scratch_after ∙ scratch-kept limit scratch (small-number.0 e);
    cleared = λ n. by_test (ltb (length scratch) limit) (λ t. absurd (n (small-number.1 (ltb-true _ _ t))))
        (λ t. let l = ltb-false _ _ t in d.scratch_after ∙ scratch-cleared limit scratch l ∙ cleared-whole limit scratch l);
  }
