-- If the tests decide the clauses, checks in an order find the one that fails first, and nothing exactly if all pass.
use Rattle.scan.proofs.Basics.{ℕ, ◌<◌, arith, ◌≡◌, refl, sym, ap, ◌∙◌, ◌⊎◌, inl, inr, ⊎_elim, ◌↔◌, Bool, false, Option, none, some, List, [], ◌∷◌}
use Rattle.scan.specs.Scan.{or_else, when, first}
use Rattle.scan.proofs.Tests.{by_test, true-false}
use Rattle.scan.proofs.First.{none-some, or_else-left, or_else-right, or_else-next, or_else-hit, or_else-cases, when-hit, when-miss, when-none, when-some, first-all, first-empty, first-at, first-hit}
use Rattle.refusal.specs.Checks.{Clause, Check, once, each, HoldAt, FailAt, FailFirst, Passes, Fails, AllPass, FirstFails}
use Rattle.refusal.specs.Finding.{Tests, found_at, found_by, finding}
use Rattle.refusal.specs.declared.Position.{Position}
use Rattle.refusal.specs.declared.Refusal.{Refusal}

-- ---- what a finding says

pub record Says (o : Option Refusal) (P : Type 0) (F : Refusal → Type 0) : Type 0 where
  pub passes : (o ≡ none) ↔ P
  pub fails : (r : Refusal) → (o ≡ some r) ↔ F r

-- one after the other: what the second says may rest on what has passed
pub says_then : {P Q : Type 0} {F G : Refusal → Type 0} (a b : Option Refusal) → Says a P F → (P → Says b Q G)
    → Says (or_else a b) (P × Q) (λ r. F r ⊎ (P × G r))
says_then a b s t = record {
  passes = (
    λ h. let p = s.passes.0 (or_else-left a b h) in (p, (t p).passes.0 (or_else-right a b h)),
    λ (p, q). or_else-next a b (s.passes.1 p) ∙ (t p).passes.1 q,
  );
  fails = λ r. (
    λ h. ⊎_elim (λ e. inl ((s.fails r).0 e)) (λ (e, k). let p = s.passes.0 e in inr (p, ((t p).fails r).0 k)) (or_else-cases a b r h),
    ⊎_elim (λ f. or_else-hit a b r ((s.fails r).1 f)) (λ (p, g). or_else-next a b (s.passes.1 p) ∙ ((t p).fails r).1 g),
  );
}

-- nothing more is asked
says_last : {P : Type 0} {F : Refusal → Type 0} (a : Option Refusal) → Says a P F → Says a (P × Unit) (λ r. F r ⊎ (P × ⊥))
says_last a s = record {
  passes = (λ h. (s.passes.0 h, tt), λ (p, u). s.passes.1 p);
  fails = λ r. (λ h. inl ((s.fails r).0 h), ⊎_elim (s.fails r).1 (λ (p, b). absurd b));
}

pub says-when : {P : Type 0} (b : Bool) (x : Refusal) → (b ≡ false) ↔ P → Says (when b x) P (λ r. (P → ⊥) × (r ≡ x))
says-when b x d = record {
  passes = (λ h. d.0 (when-none b x h), λ p. when-miss b x (d.1 p));
  fails = λ r. (
    λ h. let (t, e) = when-some b x r h in (λ p. true-false b t (d.1 p), sym e),
    λ (n, e). by_test b (λ t. when-hit b x t ∙ ap some (sym e)) (λ t. absurd (n (d.0 t))),
  );
}

-- ---- one check

-- the tests of an index decide its clauses, each where those before it hold
unfoldable pub Decides : List Clause → Tests → ℕ → Type 0
Decides [] [] i = Unit
Decides [] (f ∷ fails) i = ⊥
Decides (c ∷ cs) [] i = ⊥
Decides (c ∷ cs) (f ∷ fails) i = ((f i ≡ false) ↔ c.holds i) × (c.holds i → Decides cs fails i)

at-says : (at : ℕ → Position) (cs : List Clause) (fails : Tests) (i : ℕ) → Decides cs fails i → Says (found_at at cs fails i) (HoldAt cs i) (FailAt at cs i)
unfolding Decides found_at
at-says at [] [] i d = record { passes = (λ h. tt, λ u. refl); fails = λ r. (λ h. none-some none r refl h, λ b. absurd b) }
at-says at [] (f ∷ fails) i d = absurd d
at-says at (c ∷ cs) [] i d = absurd d
at-says at (c ∷ []) (f ∷ fails) i (d, e) = says_last _ (says-when (f i) _ d)
at-says at (c ∷ x ∷ cs) (f ∷ fails) i (d, e) = says_then _ _ (says-when (f i) _ d) (λ p. at-says at (x ∷ cs) fails i (e p))

module _ (size : ℕ) (at : ℕ → Position) (clauses : List Clause) (tests : Tests) (d : (i : ℕ) → i < size → Decides clauses tests i) where
  abbrev f : ℕ → Option Refusal
  f = found_at at clauses tests

  index-says : (i : ℕ) → i < size → Says (f i) (HoldAt clauses i) (FailAt at clauses i)
  index-says i l = at-says at clauses tests i (d i l)

  each-says : Says (first f size) ((i : ℕ) → i < size → HoldAt clauses i) (FailFirst size at clauses)
  each-says = record {
    passes = (
      λ h i l. (index-says i l).passes.0 (first-all f size h i l),
      λ p. first-empty f size (λ i l. (index-says i l).passes.1 (p i l)),
    );
    fails = λ r. (
      λ h. let (i, l, e, b) = first-at f size r h in
          record { index = i; within = l; below = λ j m. (index-says j (omega arith)).passes.0 (b j m); there = ((index-says i l).fails r).0 e },
      λ k. let l = k.within in
          first-hit f k.index r (first-empty f k.index (λ j m. (index-says j (omega arith)).passes.1 (k.below j m)))
          (((index-says k.index l).fails r).1 k.there) size l,
    );
  }

-- the tests of a check decide it
unfoldable pub Decided : Check → Tests → Type 0
Decided (once P reason) [] = ⊥
Decided (once P reason) (f ∷ fails) = (f 0 ≡ false) ↔ P
Decided (each size at clauses) fails = (i : ℕ) → i < size → Decides clauses fails i

check-says : (c : Check) (tests : Tests) → Decided c tests → Says (found_by c tests) (Passes c) (Fails c)
unfolding Decided found_by
check-says (once P reason) [] d = absurd d
check-says (once P reason) (f ∷ fails) d = says-when (f 0) _ d
check-says (each size at clauses) tests d = each-says size at clauses tests d

-- ---- a list of checks

abbrev pub Tells : Option Refusal → List Check → Type 0
Tells found checks = Says found (AllPass checks) (FirstFails checks)

-- the tests decide the clauses, given what the checks before have shown
unfoldable pub Lawful : Type 0 → List Check → List Tests → Type 0
Lawful H [] [] = Unit
Lawful H [] (t ∷ tests) = ⊥
Lawful H (c ∷ cs) [] = ⊥
Lawful H (c ∷ cs) (t ∷ tests) = (H → Decided c t) × Lawful (H × Passes c) cs tests

-- what is shown of each, in their order
infixr 60 ◌▸◌
abbrev pub ◌▸◌ : {A B : Type 0} → A → B → A × B
a ▸ b = (a, b)

pub finding-tells : (H : Type 0) (cs : List Check) (tests : List Tests) → Lawful H cs tests → H → Tells (finding cs tests) cs
unfolding Lawful finding
finding-tells H [] [] w h = record { passes = (λ e. tt, λ u. refl); fails = λ r. (λ e. none-some none r refl e, λ b. absurd b) }
finding-tells H [] (t ∷ tests) w h = absurd w
finding-tells H (c ∷ cs) [] w h = absurd w
finding-tells H (c ∷ []) (t ∷ tests) (d, w) h = says_last _ (check-says c t (d h))
finding-tells H (c ∷ x ∷ cs) (t ∷ tests) (d, w) h = says_then _ _ (check-says c t (d h)) (λ p. finding-tells (H × Passes c) (x ∷ cs) tests w (h, p))
