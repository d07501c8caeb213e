-- What is told twice of one answer is the same.
use Rattle.scan.proofs.Basics.{◌≡◌, sym, ◌∙◌}

pub told : {A : Type 0} {v x y : A} → v ≡ x → v ≡ y → x ≡ y
told p q = sym p ∙ q
