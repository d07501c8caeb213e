-- A refusal that is turned into one that can name a schedule: what was refused before, and what was not.
use Rattle.std.specs.Prelude.{Result, Err, Ok, IsErrAnd}
use Rattle.std.specs.Result.{MatchResult}
use Rattle.scan.proofs.Basics.{◌≡◌, refl}
use Rattle.refusal.specs.declared.Refusal.{Refusal}
use Rattle.lending.specs.declared.Fault.{Fault}

module _ {A : Type 0} (Q : Refusal → Fault → Type 0) where
  pub mapped_err : (v : Result A Refusal) (w : Result A Fault) (f : Fault) → MatchResult v (λ x. w ≡ Ok x) (λ r. IsErrAnd w (Q r)) → w ≡ Err f
      → (r : Refusal) × (v ≡ Err r) × Q r f
  mapped_err (Ok x) (Ok y) f h e = cc
  mapped_err (Err r) (Err g) f h e = let q : g ≡ f = cc in (r, refl, rw q at h)
  mapped_err (Ok x) (Err g) f h e = cc
  mapped_err (Err r) (Ok y) f h e = cc

  pub mapped_ok : (v : Result A Refusal) (w : Result A Fault) (x : A) → MatchResult v (λ y. w ≡ Ok y) (λ r. IsErrAnd w (Q r)) → w ≡ Ok x → v ≡ Ok x
  mapped_ok (Ok y) w x h e = cc (h, e)
  mapped_ok (Err r) (Ok y) x h e = absurd h
  mapped_ok (Err r) (Err g) x h e = cc (e)
