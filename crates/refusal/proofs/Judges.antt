-- Verdicts that follow a list of checks, one list after the other, and the numbers that they refuse by.
use Rattle.std.specs.Prelude.{Err, Ok}
use Rattle.refusal.specs.declared.Reason.{Reason}
use Rattle.refusal.specs.Refusal.{reason_number, refusal_number, Verdict}
use Rattle.scan.proofs.Basics.{ℕ, ◌≤◌, ◌<◌, arith, ◌≡◌, ap, ◌∙◌, ◌⊎◌, inl, inr, ⊎_elim, ◌↔◌, Bool, true, not, ◌&&◌, eqb, Option, List, [], ◌∷◌, ◌++◌}
use Rattle.scan.proofs.Tests.{eqb-false, not-true, and_left, and_right, and_both}
use Rattle.scan.specs.Scan.{or_else}
use Rattle.refusal.specs.Verdict.{verdict_of, and_then}
use Rattle.refusal.specs.Checks.{Clause, Check, once, each, FailAt, Fails, AllPass, FirstFails}
use Rattle.refusal.specs.declared.Position.{Position}
use Rattle.refusal.specs.declared.Refusal.{Refusal}
use Rattle.refusal.proofs.Verdicts.{answer-none, answer-some, then_next, then-refused, then-accepted, then-cases}
use Rattle.refusal.proofs.Checks.{says_then, Tells}

-- ---- one list after the other

pub pass-append : (cs ds : List Check) → AllPass (cs ++ ds) ↔ (AllPass cs × AllPass ds)
pass-append [] ds = (λ p. (tt, p), λ (u, p). p)
pass-append (c ∷ cs) ds =
    let (f, g) = pass-append cs ds in
    (λ (p, q). let (a, b) = f q in ((p, a), b), λ ((p, a), b). (p, g (a, b)))

pub fail-append : (cs ds : List Check) (r : Refusal) → FirstFails (cs ++ ds) r ↔ (FirstFails cs r ⊎ (AllPass cs × FirstFails ds r))
fail-append [] ds r = (λ f. inr (tt, f), ⊎_elim (λ b. absurd b) (λ (u, f). f))
fail-append (c ∷ cs) ds r =
    let (f, g) = fail-append cs ds r in (
      ⊎_elim (λ x. inl (inl x)) (λ (p, x). ⊎_elim (λ a. inl (inr (p, a))) (λ (q, b). inr ((p, q), b)) (f x)),
      ⊎_elim (⊎_elim inl (λ (p, a). inr (p, g (inl a)))) (λ ((p, q), b). inr (p, g (inr (q, b)))),
    )

pub tells-append : (a b : Option Refusal) (cs ds : List Check) → Tells a cs → (AllPass cs → Tells b ds) → Tells (or_else a b) (cs ++ ds)
tells-append a b cs ds s t =
    let z = says_then a b s t in
    let (f, g) = pass-append cs ds in
    record {
      passes = (λ h. g (z.passes.0 h), λ p. z.passes.1 (f p));
      fails = λ r. let (h, k) = fail-append cs ds r in (λ e. k ((z.fails r).0 e), λ x. (z.fails r).1 (h x));
    }

-- ---- verdicts

-- accepted exactly where all pass, refused exactly by the one that fails first
pub record Judges (v : Verdict) (checks : List Check) : Type 0 where
  pub accepts : (v ≡ Ok tt) ↔ AllPass checks
  pub refuses : (r : Refusal) → (v ≡ Err r) ↔ FirstFails checks r

pub judges-found : (found : Option Refusal) (checks : List Check) → Tells found checks → Judges (verdict_of found) checks
judges-found found checks t = record {
  accepts = (λ e. t.passes.0 (answer-none found e), λ p. ap verdict_of (t.passes.1 p));
  refuses = λ r. (λ e. (t.fails r).0 (answer-some found r e), λ f. ap verdict_of ((t.fails r).1 f));
}

pub judges-then : (v w : Verdict) (cs ds : List Check) → Judges v cs → (AllPass cs → Judges w ds) → Judges (and_then v w) (cs ++ ds)
judges-then v w cs ds j k = record {
  accepts = (
    λ e. let (a, b) = then-accepted v w e in let p = j.accepts.0 a in (pass-append cs ds).1 (p, (k p).accepts.0 b),
    λ p. let (a, b) = (pass-append cs ds).0 p in then_next v w (j.accepts.1 a) ∙ (k a).accepts.1 b,
  );
  refuses = λ r. (
    λ e. (fail-append cs ds r).1
        (⊎_elim (λ a. inl ((j.refuses r).0 a)) (λ (a, b). let p = j.accepts.0 a in inr (p, ((k p).refuses r).0 b)) (then-cases v w r e)),
    λ f. ⊎_elim (λ a. let e = (j.refuses r).1 a in then-refused v w r e ∙ e) (λ (p, b). then_next v w (j.accepts.1 p) ∙ ((k p).refuses r).1 b) ((fail-append cs ds r).0 f),
  );
}

-- ---- numbers

-- neither the number of what is accepted nor that of scratch
abbrev proper : Reason → Bool
proper reason = not (eqb (reason_number reason) 0) && not (eqb (reason_number reason) 21)

abbrev proper_at : List Clause → Bool
proper_at [] = true
proper_at (c ∷ cs) = proper c.reason && proper_at cs

abbrev proper_by : Check → Bool
proper_by (once P reason) = proper reason
proper_by (each size at clauses) = proper_at clauses

abbrev pub properly : List Check → Bool
properly [] = true
properly (c ∷ cs) = proper_by c && properly cs

pub proper-append : (cs ds : List Check) → properly cs ≡ true → properly ds ≡ true → properly (cs ++ ds) ≡ true
proper-append [] ds p q = q
proper-append (c ∷ cs) ds p q =
    and_both (proper_by c) (properly (cs ++ ds)) (and_left (proper_by c) (properly cs) p)
    (proper-append cs ds (and_right (proper_by c) (properly cs) p) q)

-- refused by a number from 1 on that is not 21
abbrev pub Numbered : Refusal → Type 0
Numbered r = (1 ≤ refusal_number r) × (refusal_number r ≡ 21 → ⊥)

proper-number : (reason : Reason) → proper reason ≡ true → (1 ≤ reason_number reason) × (reason_number reason ≡ 21 → ⊥)
proper-number reason h =
    let n = reason_number reason in
    let z = eqb-false n 0 (not-true _ (and_left (not (eqb n 0)) (not (eqb n 21)) h)) in
    (omega arith, eqb-false n 21 (not-true _ (and_right (not (eqb n 0)) (not (eqb n 21)) h)))

at-number : (at : ℕ → Position) (cs : List Clause) (i : ℕ) (r : Refusal) → proper_at cs ≡ true → FailAt at cs i r → Numbered r
at-number at [] i r h b = absurd b
at-number at (c ∷ cs) i r h f =
    ⊎_elim (λ (n, e). rw e (proper-number c.reason (and_left (proper c.reason) (proper_at cs) h)))
    (λ (p, g). at-number at cs i r (and_right (proper c.reason) (proper_at cs) h) g) f

by_number : (c : Check) (r : Refusal) → proper_by c ≡ true → Fails c r → Numbered r
by_number (once P reason) r h (n, e) = rw e (proper-number reason h)
by_number (each size at clauses) r h k = at-number at clauses k.index r h k.there

pub fails-number : (cs : List Check) (r : Refusal) → properly cs ≡ true → FirstFails cs r → Numbered r
fails-number [] r h b = absurd b
fails-number (c ∷ cs) r h f =
    ⊎_elim (by_number c r (and_left (proper_by c) (properly cs) h)) (λ (p, g). fails-number cs r (and_right (proper_by c) (properly cs) h) g) f

-- ---- a number that is never given

-- each clause of that number holds
abbrev SparedAt : ℕ → List Clause → ℕ → Type 0
SparedAt k [] i = Unit
SparedAt k (c ∷ cs) i = (reason_number c.reason ≡ k → c.holds i) × SparedAt k cs i

abbrev SparedBy : ℕ → Check → Type 0
SparedBy k (once P reason) = reason_number reason ≡ k → P
SparedBy k (each size at clauses) = (i : ℕ) → i < size → SparedAt k clauses i

abbrev pub Spared : ℕ → List Check → Type 0
Spared k [] = Unit
Spared k (c ∷ cs) = SparedBy k c × Spared k cs

at-spared : (k : ℕ) (at : ℕ → Position) (cs : List Clause) (i : ℕ) (r : Refusal) → SparedAt k cs i → FailAt at cs i r → refusal_number r ≡ k → ⊥
at-spared k at [] i r s b e = b
at-spared k at (c ∷ cs) i r (h, s) f e = ⊎_elim (λ (n, q). n (h (rw q at e))) (λ (p, g). at-spared k at cs i r s g e) f

by-spared : (k : ℕ) (c : Check) (r : Refusal) → SparedBy k c → Fails c r → refusal_number r ≡ k → ⊥
by-spared k (once P reason) r s (n, q) e = n (s (rw q at e))
by-spared k (each size at clauses) r s f e = at-spared k at clauses f.index r (s f.index f.within) f.there e

pub spared-never : (k : ℕ) (cs : List Check) (r : Refusal) → Spared k cs → FirstFails cs r → refusal_number r ≡ k → ⊥
spared-never k [] r s b e = b
spared-never k (c ∷ cs) r (h, s) f e = ⊎_elim (λ x. by-spared k c r h x e) (λ (p, g). spared-never k cs r s g e) f

pub spared-append : (k : ℕ) (cs ds : List Check) → Spared k cs → Spared k ds → Spared k (cs ++ ds)
spared-append k [] ds s t = t
spared-append k (c ∷ cs) ds (h, s) t = (h, spared-append k cs ds s t)

-- as where no clause has that number
abbrev without_at : ℕ → List Clause → Bool
without_at k [] = true
without_at k (c ∷ cs) = not (eqb (reason_number c.reason) k) && without_at k cs

abbrev without_by : ℕ → Check → Bool
without_by k (once P reason) = not (eqb (reason_number reason) k)
without_by k (each size at clauses) = without_at k clauses

abbrev pub without : ℕ → List Check → Bool
without k [] = true
without k (c ∷ cs) = without_by k c && without k cs

without_at_lem : (k : ℕ) (cs : List Clause) (i : ℕ) → without_at k cs ≡ true → SparedAt k cs i
without_at_lem k [] i h = tt
without_at_lem k (c ∷ cs) i h = (
  λ e. absurd (eqb-false _ _ (not-true _ (and_left (not (eqb (reason_number c.reason) k)) (without_at k cs) h)) e),
  without_at_lem k cs i (and_right (not (eqb (reason_number c.reason) k)) (without_at k cs) h),
)

without-by : (k : ℕ) (c : Check) → without_by k c ≡ true → SparedBy k c
without-by k (once P reason) h = λ e. absurd (eqb-false (reason_number reason) k (not-true _ h) e)
without-by k (each size at clauses) h = λ i l. without_at_lem k clauses i h

pub without-spared : (k : ℕ) (cs : List Check) → without k cs ≡ true → Spared k cs
without-spared k [] h = tt
without-spared k (c ∷ cs) h =
    (without-by k c (and_left (without_by k c) (without k cs) h), without-spared k cs (and_right (without_by k c) (without k cs) h))
