-- The paths of a call's code, and for each the law by which it meets `CallDone` or `WordsDone`: refused by 21, past 21, refused by the words or by 22, accepted.
use Rattle.std.specs.Prelude.{Err, Ok}
use Rattle.refusal.specs.declared.Reason.TheVariants.{SmallScratch}
use Rattle.scan.proofs.Basics.{ℕ, ◌≤◌, ◌<◌, arith, ◌≡◌, refl, sym, ◌∙◌, List, [], ◌∷◌, length}
use Rattle.scan.specs.Scan.{tabulate}
use Rattle.scan.specs.Front.{cleared}
use Rattle.refusal.specs.Refusal.{refusal}
use Rattle.refusal.specs.declared.Position.TheVariants.{Nothing}
use Rattle.refusal.specs.declared.Refusal.{Refusal}
use Rattle.lending.specs.Call.{Core, CallDone, WordsDone, scratch_fault, room_fault, buffer, words_verdict, call_verdict, written_over, written_at}
use Rattle.lending.proofs.Lent.{scratch-small, scratch-enough, scratch_holds, scratch-lacks, scratch-kept, scratch-cleared}
use Rattle.lending.proofs.Lent.{Room, room-holds, room-lacks, output-room, output-short, room-one, room-two}

-- ---- 21 first

module _ {Answer : Type 0} (core : Core Answer) (outs : List (List ℕ)) (limit lent : ℕ) where
  pub call-small : lent < limit → call_verdict limit core outs lent ≡ Err (refusal SmallScratch Nothing)
  unfolding call_verdict
  call-small l = rw (scratch-small limit lent l)

  pub call-enough : limit ≤ lent → call_verdict limit core outs lent ≡ words_verdict core outs
  unfolding call_verdict
  call-enough l = rw (scratch-enough limit lent l)

-- ---- the paths

module _ {Answer : Type 0} {core : Core Answer} {outs : List (List ℕ)} {answer : Answer} where
  -- scratch that is too small: nothing is touched
  pub refused-scratch : {limit : ℕ} {scratch : List ℕ} {r : Refusal} → scratch_fault limit (length scratch) ≡ Err r → answer ≡ core.refused r
      → CallDone limit core outs scratch answer outs scratch
  unfolding call_verdict
  refused-scratch {limit} {scratch} {r} e a = record {
    reply = rw e a;
    written = rw e;
    scratch_after = sym (scratch-kept limit scratch (scratch-lacks limit (length scratch) r e));
  }

  -- scratch that is enough: what the words give, and scratch cleared
  pub served : {limit : ℕ} {scratch scratch' : List ℕ} {outs' : List (List ℕ)} → scratch_fault limit (length scratch) ≡ Ok tt
      → WordsDone core outs answer outs' → scratch' ≡ cleared limit scratch → CallDone limit core outs scratch answer outs' scratch'
  unfolding call_verdict
  served {limit} {scratch} e d s = record {
    reply = rw e d.reply;
    written = rw e d.written;
    scratch_after = s ∙ sym (scratch-cleared limit scratch (scratch_holds limit (length scratch) e));
  }

  pub refused-words : {r : Refusal} → core.verdict ≡ Err r → answer ≡ core.refused r → WordsDone core outs answer outs
  unfolding words_verdict
  refused-words e a = record { reply = rw e a; written = rw e }

  -- one of the output buffers is too short
  pub refused-output : {r : Refusal} → core.verdict ≡ Ok tt → (i : ℕ) → room_fault (length (buffer outs i)) (length (buffer core.results i)) ≡ Err r
      → answer ≡ core.refused r → WordsDone core outs answer outs
  unfolding words_verdict
  refused-output {r} e i f a =
      let (l, q) = room-lacks _ _ r f in
      let o = output-short core.results outs i l in
      record { reply = rw (e, o, ← q) a; written = rw (e, o) }

  pub answered : {outs' : List (List ℕ)} → core.verdict ≡ Ok tt → Room core.results outs → answer ≡ core.accepted
      → outs' ≡ tabulate (written_at core.results outs) (length outs) → WordsDone core outs answer outs'
  unfolding words_verdict
  answered e h a w = let o = output-room core.results outs h in record { reply = rw (e, o) a; written = rw (e, o) w }

-- ---- the paths of a call with no output buffer, one or two

module _ {Answer : Type 0} {core : Core Answer} {answer : Answer} where
  pub answered-none : core.results ≡ [] → core.verdict ≡ Ok tt → answer ≡ core.accepted → WordsDone core [] answer []
  unfolding tabulate
  answered-none q e a = answered e (rw q (λ i. omega arith)) a refl

  module _ {result out : List ℕ} where
    pub refused-one : {r : Refusal} → core.results ≡ result ∷ [] → core.verdict ≡ Ok tt → room_fault (length out) (length result) ≡ Err r
        → answer ≡ core.refused r → WordsDone core (out ∷ []) answer (out ∷ [])
    refused-one q e f a = refused-output e 0 (rw q f) a

    pub answered-one : {out' : List ℕ} → core.results ≡ result ∷ [] → core.verdict ≡ Ok tt → room_fault (length out) (length result) ≡ Ok tt
        → answer ≡ core.accepted → out' ≡ written_over result out → WordsDone core (out ∷ []) answer (out' ∷ [])
    unfolding tabulate written_at
    answered-one q e f a w = answered e (rw q ((room-one result out).0 (room-holds _ _ f))) a (rw (q, w))

  module _ {result₁ result₂ out₁ out₂ : List ℕ} where
    pub refused-first : {r : Refusal} → core.results ≡ result₁ ∷ result₂ ∷ [] → core.verdict ≡ Ok tt → room_fault (length out₁) (length result₁) ≡ Err r
        → answer ≡ core.refused r → WordsDone core (out₁ ∷ out₂ ∷ []) answer (out₁ ∷ out₂ ∷ [])
    refused-first q e f a = refused-output e 0 (rw q f) a

    pub refused-second : {r : Refusal} → core.results ≡ result₁ ∷ result₂ ∷ [] → core.verdict ≡ Ok tt → room_fault (length out₂) (length result₂) ≡ Err r
        → answer ≡ core.refused r → WordsDone core (out₁ ∷ out₂ ∷ []) answer (out₁ ∷ out₂ ∷ [])
    refused-second q e f a = refused-output e 1 (rw q f) a

    pub answered-two : {out₁' out₂' : List ℕ} → core.results ≡ result₁ ∷ result₂ ∷ [] → core.verdict ≡ Ok tt
        → room_fault (length out₁) (length result₁) ≡ Ok tt → room_fault (length out₂) (length result₂) ≡ Ok tt → answer ≡ core.accepted
        → out₁' ≡ written_over result₁ out₁ → out₂' ≡ written_over result₂ out₂ → WordsDone core (out₁ ∷ out₂ ∷ []) answer (out₁' ∷ out₂' ∷ [])
    unfolding tabulate written_at
    answered-two q e f g a v w =
        answered e (rw q ((room-two result₁ result₂ out₁ out₂).0 (room-holds _ _ f, room-holds _ _ g))) a (rw (q, v, w))
