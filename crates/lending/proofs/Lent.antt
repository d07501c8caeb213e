-- Whether enough is lent: what refusals 21 and 22 say about scratch and output buffers, and when two buffers give the same answer.
use Rattle.std.specs.Prelude.{Err, Ok}
use Rattle.refusal.specs.declared.Reason.TheVariants.{SmallOutput, SmallScratch}
use Rattle.scan.proofs.Basics.{ℕ, zero, suc, ◌≤◌, ◌<◌, arith, ◌≡◌, refl, sym, ap, ◌↔◌, Bool, cond, ltb, List, [], ◌∷◌, length, drop}
use Rattle.scan.proofs.Tests.{ltb-true, ltb-false, lt-ltb, le-ltb, by_test}
use Rattle.scan.specs.Scan.{when}
use Rattle.scan.specs.Front.{cleared}
use Rattle.scan.proofs.First.{when-none, when-some}
use Rattle.refusal.specs.Refusal.{refusal}
use Rattle.refusal.specs.declared.Position.TheVariants.{Nothing}
use Rattle.refusal.specs.declared.Refusal.{Refusal}
use Rattle.refusal.proofs.Verdicts.{answer-none, answer-some}
use Rattle.lending.specs.Call.{scratch_fault, scratch_at_return, room_fault, buffer, output_fault}
use Rattle.lending.specs.Demands.{Alike}

-- ---- 21

module _ (limit lent : ℕ) where
  pub scratch-small : lent < limit → scratch_fault limit lent ≡ Err (refusal SmallScratch Nothing)
  unfolding scratch_fault when
  scratch-small l = rw (lt-ltb lent limit l)

  pub scratch-enough : limit ≤ lent → scratch_fault limit lent ≡ Ok tt
  unfolding scratch_fault when
  scratch-enough l = rw (le-ltb lent limit l)

  pub scratch_holds : scratch_fault limit lent ≡ Ok tt → limit ≤ lent
  unfolding scratch_fault
  scratch_holds e = ltb-false lent limit (when-none _ _ (answer-none _ e))

  pub scratch-lacks : (r : Refusal) → scratch_fault limit lent ≡ Err r → lent < limit
  unfolding scratch_fault
  scratch-lacks r e = ltb-true lent limit (when-some _ _ r (answer-some _ r e)).0

module _ (limit : ℕ) (scratch : List ℕ) where
  pub scratch-kept : length scratch < limit → scratch_at_return limit scratch ≡ scratch
  unfolding scratch_at_return
  scratch-kept l = ap (λ (small : Bool). cond small scratch (cleared limit scratch)) (lt-ltb (length scratch) limit l)

  pub scratch-cleared : limit ≤ length scratch → scratch_at_return limit scratch ≡ cleared limit scratch
  unfolding scratch_at_return
  scratch-cleared l = ap (λ (small : Bool). cond small scratch (cleared limit scratch)) (le-ltb (length scratch) limit l)

-- ---- 22

module _ (lent needed : ℕ) where
  pub room_small : lent < needed → room_fault lent needed ≡ Err (refusal SmallOutput Nothing)
  unfolding room_fault when
  room_small l = rw (lt-ltb lent needed l)

  pub room-enough : needed ≤ lent → room_fault lent needed ≡ Ok tt
  unfolding room_fault when
  room-enough l = rw (le-ltb lent needed l)

  pub room-holds : room_fault lent needed ≡ Ok tt → needed ≤ lent
  unfolding room_fault
  room-holds e = ltb-false lent needed (when-none _ _ (answer-none _ e))

  pub room-lacks : (r : Refusal) → room_fault lent needed ≡ Err r → (lent < needed) × (r ≡ refusal SmallOutput Nothing)
  unfolding room_fault
  room-lacks r e = let (t, q) = when-some _ _ r (answer-some _ r e) in (ltb-true lent needed t, sym q)

-- each result has room in its buffer
abbrev pub Room : List (List ℕ) → List (List ℕ) → Type 0
Room results outs = (i : ℕ) → length (buffer results i) ≤ length (buffer outs i)

abbrev pub Short : List (List ℕ) → List (List ℕ) → ℕ → Type 0
Short results outs i = length (buffer outs i) < length (buffer results i)

next-buffer : (outs : List (List ℕ)) (i : ℕ) → buffer (drop 1 outs) i ≡ buffer outs (suc i)
next-buffer [] i = refl
next-buffer (out ∷ outs) i = refl

pub output-room : (results outs : List (List ℕ)) → Room results outs → output_fault results outs ≡ Ok tt
unfolding output_fault
output-room [] outs h = refl
output-room (result ∷ results) outs h =
    rw (room-enough (length (buffer outs 0)) (length result) (h 0)) (output-room results (drop 1 outs) (λ i. rw (next-buffer outs i) (h (suc i))))

pub output-short : (results outs : List (List ℕ)) (i : ℕ) → Short results outs i → output_fault results outs ≡ Err (refusal SmallOutput Nothing)
unfolding output_fault
output-short [] outs i l = absurd (omega arith)
output-short (result ∷ results) outs zero l = rw (room_small (length (buffer outs 0)) (length result) l)
output-short (result ∷ results) outs (suc i) l =
    by_test (ltb (length (buffer outs 0)) (length result)) (λ e. rw (room_small (length (buffer outs 0)) (length result) (ltb-true _ _ e)))
    (λ e. rw (room-enough (length (buffer outs 0)) (length result) (ltb-false _ _ e)) (output-short results (drop 1 outs) i (rw (next-buffer outs i) l)))

-- a short buffer, or room in each
pub output-cases {ℓ} : {C : Type ℓ} (results outs : List (List ℕ)) → ((i : ℕ) → Short results outs i → C) → (Room results outs → C) → C
output-cases [] outs f g = g (λ i. omega arith)
output-cases (result ∷ results) outs f g =
    by_test (ltb (length (buffer outs 0)) (length result)) (λ e. f 0 (ltb-true _ _ e))
    (λ e. output-cases results (drop 1 outs) (λ i l. f (suc i) (rw (next-buffer outs i) at l)) (λ h. g (all (ltb-false _ _ e) h)))
  where
    all : length result ≤ length (buffer outs 0) → Room results (drop 1 outs) → Room (result ∷ results) outs
    all l h zero = l
    all l h (suc i) = rw (next-buffer outs i) at (h i)

-- ---- one buffer and two

pub room-one : (result out : List ℕ) → (length result ≤ length out) ↔ Room (result ∷ []) (out ∷ [])
room-one result out = (all, λ h. h 0)
  where
    all : length result ≤ length out → Room (result ∷ []) (out ∷ [])
    all l zero = l
    all l (suc i) = omega arith

pub room-two : (result₁ result₂ out₁ out₂ : List ℕ) → ((length result₁ ≤ length out₁) × (length result₂ ≤ length out₂)) ↔ Room (result₁ ∷ result₂ ∷ []) (out₁ ∷ out₂ ∷ [])
room-two result₁ result₂ out₁ out₂ = (all, λ h. (h 0, h 1))
  where
    all : (length result₁ ≤ length out₁) × (length result₂ ≤ length out₂) → Room (result₁ ∷ result₂ ∷ []) (out₁ ∷ out₂ ∷ [])
    all (l, m) zero = l
    all (l, m) (suc zero) = m
    all (l, m) (suc (suc i)) = omega arith

-- ---- buffers that are alike

pub alike_same : (needed : ℕ) (a b : List ℕ) → length a ≡ length b → Alike needed a b
alike_same needed a b e = (λ l. omega arith, λ l. omega arith)

pub alike-one : (result out₁ out₂ : List ℕ) → Alike (length result) out₁ out₂
    → (i : ℕ) → Alike (length (buffer (result ∷ []) i)) (buffer (out₁ ∷ []) i) (buffer (out₂ ∷ []) i)
alike-one result out₁ out₂ h zero = h
alike-one result out₁ out₂ h (suc i) = alike_same 0 [] [] refl

pub alike-two : (result₁ result₂ out₁ out₂ other₁ other₂ : List ℕ) → Alike (length result₁) out₁ other₁ → Alike (length result₂) out₂ other₂
    → (i : ℕ) → Alike (length (buffer (result₁ ∷ result₂ ∷ []) i)) (buffer (out₁ ∷ out₂ ∷ []) i) (buffer (other₁ ∷ other₂ ∷ []) i)
alike-two result₁ result₂ out₁ out₂ other₁ other₂ h k zero = h
alike-two result₁ result₂ out₁ out₂ other₁ other₂ h k (suc i) = alike-one result₂ out₂ other₂ k i
