-- What a `?` hands back as a refusal that can name a schedule.
use Rattle.std.specs.Prelude.{Result, Err, IsErrAnd}
use Rattle.std.proofs.lemmas.Result.{err_from_is_err_and}
use Rattle.scan.proofs.Basics.{◌≡◌, ap, ◌∙◌}
use Rattle.refusal.specs.declared.Refusal.{Refusal}
use Rattle.lending.specs.Fault.{unnamed}
use Rattle.lending.specs.declared.Fault.{Fault}

-- a refusal of no schedule
pub unnamed_on : {A : Type 0} {r : Refusal} (w : Result A Fault) → IsErrAnd w (λ f. f ≡ unnamed r) → w ≡ Err (unnamed r)
unnamed_on w h = let p = err_from_is_err_and w h in p.1 ∙ ap Err p.2

-- one that names what it named
pub told_on : {A : Type 0} {f : Fault} (w : Result A Fault) → IsErrAnd w (λ g. g ≡ f) → w ≡ Err f
told_on w h = let p = err_from_is_err_and w h in p.1 ∙ ap Err p.2
