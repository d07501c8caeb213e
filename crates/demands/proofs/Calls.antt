-- What the demands use about every call: when it answers 0, what its output buffers then hold, and that nothing depends on what the buffers held before.
use Rattle.std.specs.Prelude.{Ok}
use Rattle.scan.proofs.Basics.{ℕ, ◌≤◌, ◌≡◌, sym, ◌∙◌, inl, inr, ◌↔◌, List, [], ◌∷◌, ◌++◌, length, get_or, take, drop}
use mathlib.Core.Logic.Iff
use lib.ListN.{get_or-append}
use Rattle.scan.proofs.Tests.{by_less, by_equal}
use Rattle.refusal.specs.Limits.{scratch_limit}
use Rattle.refusal.specs.Checks.{Check}
use Rattle.refusal.proofs.Judges.{pass-append}
use Rattle.lending.specs.Call.{Core, CallDone, buffer}
use Rattle.lending.specs.Demands.{number, own}
use Rattle.lending.proofs.Lent.{Room, alike_same, alike-one, alike-two}
use Rattle.lending.proofs.Judged.{Lawful, words-judged}
use Rattle.lending.proofs.Done.{by-checks, done-zero, done_refused, own-answered, written-front, written-past}
use Rattle.lending.proofs.Demands.{independent}
use Rattle.demands.specs.Demand1.{Unread}
use Rattle.demands.specs.Replay.{LeftAlike}

module _ {Answer : Type 0} {core : Core Answer} {plain : Answer → List ℕ} {numbers : List ℕ} {words : List Check} (law : Lawful core plain numbers words) where
  module _ {limit : ℕ} {outs outs' : List (List ℕ)} {s s' : List ℕ} {a : Answer} (d : CallDone limit core outs s a outs' s') where
    -- exactly where scratch suffices, the words pass and the results fit
    pub call-zero : (number (plain a) ≡ 0) ↔ ((limit ≤ length s) × (core.verdict ≡ Ok tt) × Room core.results outs)
    call-zero =
        let (f, g) = (by-checks law d (words-judged core outs {Fits = Room core.results outs} law.judged (λ p. Iff.rfl))).zero in (
          λ z. let b = done-zero law d z in ((f z).0, b.passed, b.room),
          λ (l, h, m). g (l, (pass-append words _).1 (law.judged.accepts.0 h, (m, tt))),
        )

    -- a result whose length is answered: it is so many words of its buffer, which past them is as it was
    module _ (z : number (plain a) ≡ 0) (i : ℕ) (q : get_or numbers i 0 ≡ length (buffer core.results i)) where
      pub own-size : own (plain a) i ≡ length (buffer core.results i)
      own-size = own-answered law d z i ∙ q

      pub own-front : take (own (plain a) i) (buffer outs' i) ≡ buffer core.results i
      own-front = rw (own-size, (done-zero law d z).written i) (written-front (buffer core.results i) (buffer outs i))

      pub own-rest : buffer outs' i ≡ take (own (plain a) i) (buffer outs' i) ++ drop (own (plain a) i) (buffer outs i)
      own-rest = rw (own-front, own-size) ((done-zero law d z).written i)

      pub own-fits : own (plain a) i ≤ length (buffer outs i)
      own-fits = rw own-size ((done-zero law d z).room i)

  -- ---- what is not read

  -- each number of one buffer of two calls with the same answer is the result's in both, or as it was in both
  left-alike : (j : ℕ) {outs₁ outs₂ outs₁' outs₂' : List (List ℕ)} {s₁ s₂ s₁' s₂' : List ℕ} {a : Answer}
      → CallDone scratch_limit core outs₁ s₁ a outs₁' s₁' → CallDone scratch_limit core outs₂ s₂ a outs₂' s₂'
      → LeftAlike (buffer outs₁ j) (buffer outs₂ j) (buffer outs₁' j) (buffer outs₂' j)
  left-alike j {outs₁} {outs₂} {a = a} c d i = by_equal (number (plain a)) 0
      (λ z.
      let r = buffer core.results j in
      let e = (done-zero law c z).written j in
      let f = (done-zero law d z).written j in
      by_less i (length r) (λ l. inl (rw (e, f) (get_or-append r _ 0 i l ∙ sym (get_or-append r _ 0 i l))))
      (λ l. inr (rw e (written-past r (buffer outs₁ j) i l), rw f (written-past r (buffer outs₂ j) i l))))
      (λ n. inr (rw (done_refused law c n).written, rw (done_refused law d n).written))

  pub unread-one : (result : List ℕ) → core.results ≡ result ∷ [] → Unread (λ o s a o' s'. CallDone scratch_limit core (o ∷ []) s a (o' ∷ []) s')
  unread-one result only o₁ o₂ s₁ s₂ o₁' o₂' s₁' s₂' a₁ a₂ lo ls c d =
      let same : a₁ ≡ a₂ = (independent scratch_limit law _ _ _ _ s₁ s₂ s₁' s₂' a₁ a₂ (alike_same scratch_limit s₁ s₂ ls)
      (rw only (alike-one result o₁ o₂ (alike_same (length result) o₁ o₂ lo))) c d).0 in
      (same, left-alike 0 (rw same at c) d)

  pub unread-two : (result₁ result₂ : List ℕ) → core.results ≡ result₁ ∷ result₂ ∷ []
      → (o₁ o₂ l₁ l₂ s₁ s₂ o₁' o₂' l₁' l₂' s₁' s₂' : List ℕ) (a₁ a₂ : Answer) → length o₁ ≡ length o₂ → length l₁ ≡ length l₂ → length s₁ ≡ length s₂
      → CallDone scratch_limit core (o₁ ∷ l₁ ∷ []) s₁ a₁ (o₁' ∷ l₁' ∷ []) s₁' → CallDone scratch_limit core (o₂ ∷ l₂ ∷ []) s₂ a₂ (o₂' ∷ l₂' ∷ []) s₂'
      → (a₁ ≡ a₂) × LeftAlike o₁ o₂ o₁' o₂' × LeftAlike l₁ l₂ l₁' l₂'
  unread-two result₁ result₂ both o₁ o₂ l₁ l₂ s₁ s₂ o₁' o₂' l₁' l₂' s₁' s₂' a₁ a₂ lo ll ls c d =
      let same : a₁ ≡ a₂ = (independent scratch_limit law _ _ _ _ s₁ s₂ s₁' s₂' a₁ a₂ (alike_same scratch_limit s₁ s₂ ls)
      (rw both (alike-two result₁ result₂ o₁ l₁ o₂ l₂ (alike_same _ o₁ o₂ lo) (alike_same _ l₁ l₂ ll))) c d).0 in
      (same, left-alike 0 (rw same at c) d, left-alike 1 (rw same at c) d)
