-- The index of the refused schedule in a comparison's answer: the number of the refusal says whether it is about a schedule.
use Rattle.std.specs.Prelude.{Err, None, Ok, Some}
use Rattle.refusal.specs.declared.Reason.TheVariants.{SmallOutput}
use Rattle.scan.proofs.Basics.{ℕ, ◌≤◌, arith, ◌≡◌, refl, inr, ⊎_elim, Bool, true, false, cond, not, ◌&&◌, List, [], ◌∷◌, ◌++◌, length}
use mathlib.Core.Logic.Iff
use Rattle.scan.proofs.Tests.{not-true, and_left, and_right}
use Rattle.refusal.specs.Refusal.{refusal, Verdict, refusal_number, reason_number}
use Rattle.refusal.specs.Limits.{scratch_limit}
use Rattle.refusal.specs.Checks.{Clause, Check, once, each, FailAt, Fails, AllPass, FirstFails}
use Rattle.refusal.specs.declared.Position.{Position}
use Rattle.refusal.specs.declared.Position.TheVariants.{Nothing}
use Rattle.refusal.specs.declared.Refusal.{Refusal}
use Rattle.refusal.proofs.Judges.{Judges, pass-append, fail-append}
use Rattle.refusal.proofs.Verdicts.{accepted-refused}
use Rattle.net.specs.Checks.{net_checks, IsNet}
use Rattle.net.proofs.Checks.{net-judged}
use Rattle.sequential.specs.Petri.{petri_net}
use Rattle.sequential.specs.Checks.{sheet_checks}
use Rattle.sequential.specs.Check.{schedule_reply}
use Rattle.sequential.proofs.Accepted.{schedule-judged}
use Rattle.lending.specs.Call.{call_verdict, answer_of}
use Rattle.lending.specs.Demands.{call_checks}
use Rattle.refusal.specs.Index.{plain_index}
use Rattle.lending.proofs.Lent.{Room}
use Rattle.lending.proofs.Judged.{words-judged, call-judged}
use Rattle.lending.specs.Fault.{sheet_index}
use Rattle.compare.specs.Compare.{of_schedule, about, compare_core, CompareAnswer}
use Rattle.compare.specs.Means.{CompareDone}
use Rattle.compare.proofs.Done.{compare-judged}
use Rattle.demands.specs.Compare.{ToldIndex}

-- ---- checks whose numbers all pass a test

module _ (f : ℕ → Bool) where
  abbrev numbers_at : List Clause → Bool
  numbers_at [] = true
  numbers_at (c ∷ cs) = f (reason_number c.reason) && numbers_at cs

  abbrev numbers_by : Check → Bool
  numbers_by (once P reason) = f (reason_number reason)
  numbers_by (each size at clauses) = numbers_at clauses

  abbrev numbers_of : List Check → Bool
  numbers_of [] = true
  numbers_of (c ∷ cs) = numbers_by c && numbers_of cs

  at-fails : (at : ℕ → Position) (cs : List Clause) (i : ℕ) (r : Refusal) → numbers_at cs ≡ true → FailAt at cs i r → f (refusal_number r) ≡ true
  at-fails at [] i r h b = absurd b
  at-fails at (c ∷ cs) i r h k =
      ⊎_elim (λ (n, e). rw e (and_left (f (reason_number c.reason)) (numbers_at cs) h)) (λ (p, g). at-fails at cs i r (and_right (f (reason_number c.reason)) (numbers_at cs) h) g) k

  by-fails : (c : Check) (r : Refusal) → numbers_by c ≡ true → Fails c r → f (refusal_number r) ≡ true
  by-fails (once P reason) r h (n, e) = rw e h
  by-fails (each size at clauses) r h k = at-fails at clauses k.index r h k.there

  first-fails : (cs : List Check) (r : Refusal) → numbers_of cs ≡ true → FirstFails cs r → f (refusal_number r) ≡ true
  first-fails [] r h b = absurd b
  first-fails (c ∷ cs) r h k =
      ⊎_elim (by-fails c r (and_left (numbers_by c) (numbers_of cs) h)) (λ (p, g). first-fails cs r (and_right (numbers_by c) (numbers_of cs) h) g) k

net-numbers : (net : List ℕ) (r : Refusal) → FirstFails (net_checks net) r → of_schedule (refusal_number r) ≡ false
net-numbers net r f = not-true _ (first-fails (λ n. not (of_schedule n)) (net_checks net) r (unfold of_schedule in refl) f)

sheet-numbers : (net sheet : List ℕ) (r : Refusal) → FirstFails (sheet_checks (petri_net net) sheet) r → of_schedule (refusal_number r) ≡ true
sheet-numbers net sheet r f = first-fails of_schedule (sheet_checks (petri_net net) sheet) r (unfold of_schedule in refl) f

module _ (net x y scratch : List ℕ) where
  abbrev X : List Check
  X = sheet_checks (petri_net net) x

  abbrev Y : List Check
  Y = sheet_checks (petri_net net) y

  -- scratch is too small, or the net is none
  before-told : (scratch_limit ≤ length scratch → IsNet net → ⊥) → ToldIndex net x y scratch 0
  before-told k = record {
    first = (λ e. absurd (omega arith), λ (l, n, f). absurd (k l n));
    second = (λ e. absurd (omega arith), λ (l, n, p, f). absurd (k l n));
    no_other = omega arith;
  }

  -- both schedules pass
  after-told : AllPass X → AllPass Y → ToldIndex net x y scratch 0
  after-told p q = record {
    first = (λ e. absurd (omega arith), λ (l, n, f). absurd (f p));
    second = (λ e. absurd (omega arith), λ (l, n, a, f). absurd (f q));
    no_other = omega arith;
  }

  first-told : scratch_limit ≤ length scratch → IsNet net → (AllPass X → ⊥) → ToldIndex net x y scratch 1
  first-told l n f = record {
    first = (λ e. (l, n, f), λ h. refl);
    second = (λ e. absurd (omega arith), λ (m, k, p, g). absurd (f p));
    no_other = omega arith;
  }

  second-told : scratch_limit ≤ length scratch → IsNet net → AllPass X → (AllPass Y → ⊥) → ToldIndex net x y scratch 2
  second-told l n p f = record {
    first = (λ e. absurd (omega arith), λ (m, k, g). absurd (g p));
    second = (λ e. (l, n, p, f), λ h. refl);
    no_other = omega arith;
  }

  -- what a refusal tells, by its number and by whether the first schedule is accepted
  abbrev told_by : Refusal → ℕ
  told_by r = plain_index (cond (of_schedule (refusal_number r)) (Some (about (schedule_reply net x))) None)

  none_of : (r : Refusal) → of_schedule (refusal_number r) ≡ false → ToldIndex net x y scratch 0 → ToldIndex net x y scratch (told_by r)
  none_of r e t = rw e t

  module _ (r : Refusal) where
    by-net : FirstFails (net_checks net) r → ToldIndex net x y scratch (told_by r)
    by-net f = none_of r (net-numbers net r f) (before-told (λ l n. accepted-refused _ r ((net-judged net).accepts.1 n) (((net-judged net).refuses r).1 f)))

    by_first : scratch_limit ≤ length scratch → IsNet net → FirstFails X r → ToldIndex net x y scratch (told_by r)
    by_first l n f =
        let e = ((schedule-judged net x).refuses r).1 ((fail-append (net_checks net) X r).1 (inr (n, f))) in
        rw (sheet-numbers net x r f, e) (first-told l n (λ p. accepted-refused _ r ((schedule-judged net x).accepts.1 ((pass-append (net_checks net) X).1 (n, p))) e))

    by-second : scratch_limit ≤ length scratch → AllPass (net_checks net ++ X) → FirstFails Y r → ToldIndex net x y scratch (told_by r)
    by-second l a f =
        let (n, p) = (pass-append (net_checks net) X).0 a in
        let e = ((compare-judged net x y).refuses r).1 ((fail-append (net_checks net ++ X) Y r).1 (inr (a, f))) in
        rw (sheet-numbers net y r f, (schedule-judged net x).accepts.1 a)
        (second-told l n p (λ q. accepted-refused _ r ((compare-judged net x y).accepts.1 ((pass-append (net_checks net ++ X) Y).1 (a, q))) e))

    by-words : scratch_limit ≤ length scratch → FirstFails ((net_checks net ++ X) ++ Y) r → ToldIndex net x y scratch (told_by r)
    by-words l f =
        ⊎_elim (λ g. ⊎_elim by-net (λ (n, h). by_first l n h) ((fail-append (net_checks net) X r).0 g)) (λ (a, h). by-second l a h)
        ((fail-append (net_checks net ++ X) Y r).0 f)

    by-room : AllPass ((net_checks net ++ X) ++ Y) → r ≡ refusal SmallOutput Nothing → ToldIndex net x y scratch (told_by r)
    by-room p q =
        let (a, b) = (pass-append (net_checks net ++ X) Y).0 p in
        none_of r (rw q (unfold of_schedule in refl)) (after-told ((pass-append (net_checks net) X).0 a).1 b)

    by_call : {Fits : Type 0} → FirstFails (call_checks scratch_limit scratch (((net_checks net ++ X) ++ Y) ++ (once Fits SmallOutput ∷ []))) r → ToldIndex net x y scratch (told_by r)
    by_call {Fits} f =
        ⊎_elim (λ (n, q). none_of r (rw q (unfold of_schedule in refl)) (before-told (λ l k. n l)))
        (λ (l, g). ⊎_elim (by-words l) (λ (p, h). ⊎_elim (λ (n, q). by-room p q) (λ (u, b). absurd b) h) ((fail-append ((net_checks net ++ X) ++ Y) (once Fits SmallOutput ∷ []) r).0 g)) f

  -- ---- every answer

  module _ (one two : List ℕ) where
    abbrev fits : List Check
    fits = once (Room (compare_core net x y).results (one ∷ two ∷ [])) SmallOutput ∷ []

    abbrev found : Verdict
    found = call_verdict scratch_limit (compare_core net x y) (one ∷ two ∷ []) (length scratch)

    judged : Judges found (call_checks scratch_limit scratch (((net_checks net ++ X) ++ Y) ++ fits))
    judged = call-judged (compare_core net x y) (one ∷ two ∷ []) scratch_limit scratch (words-judged (compare_core net x y) (one ∷ two ∷ []) (compare-judged net x y) (λ p. Iff.rfl))

    answer-told : (v : Verdict) → found ≡ v → ToldIndex net x y scratch (sheet_index (answer_of (compare_core net x y) v))
    answer-told (Ok tt) e =
        let (l, p) = judged.accepts.0 e in
        let (a, q) = (pass-append (net_checks net ++ X) Y).0 ((pass-append ((net_checks net ++ X) ++ Y) fits).0 p).0 in
        after-told ((pass-append (net_checks net) X).0 a).1 q
    answer-told (Err r) e = by_call r ((judged.refuses r).0 e)

  pub index-told : {one two one' two' scratch' : List ℕ} {a : CompareAnswer} → CompareDone net x y one two scratch a one' two' scratch'
      → ToldIndex net x y scratch (sheet_index a)
  index-told {one} {two} d = rw d.call.reply (answer-told one two (found one two) refl)
