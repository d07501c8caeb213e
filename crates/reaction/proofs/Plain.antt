-- The plain numbers of the call's answer are those that `refusal::plain` gives: §8.1, §8.3.
use Rattle.scan.proofs.Basics.{◌≡◌, refl, [], ◌∷◌}
use Rattle.std.specs.Prelude.{Ok, Err}
use Rattle.refusal.specs.Refusal.{plain_answer}
use Rattle.reaction.specs.Call.{ReactionAnswer, plain_reaction}

pub told_plainly : (a : ReactionAnswer) → plain_answer (λ n. n ∷ 0 ∷ 0 ∷ []) a ≡ plain_reaction a
told_plainly (Ok length) = refl
told_plainly (Err r) = refl
