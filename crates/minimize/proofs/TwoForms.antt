-- The paths of the code that writes two forms, once both are measured: a buffer is too short, or both are written.
use Rattle.std.specs.Prelude.{Err, Ok}
use Rattle.refusal.specs.Refusal.{Verdict}
use Rattle.scan.proofs.Basics.{ℕ, ◌+◌, ◌*◌, ◌≡◌, sym, ◌∙◌, refl, List, length}
use Rattle.scan.specs.Placed.{placed}
use Rattle.scan.proofs.Placed.{placed-front}
use Rattle.refusal.specs.declared.Refusal.{Refusal}
use Rattle.refusal.specs.Verdict.{and_then}
use Rattle.refusal.proofs.Verdicts.{then_next}
use Rattle.graph.specs.Readable.{words_reply}
use Rattle.lending.specs.Call.{room_fault}
use Rattle.lending.proofs.Lent.{room-holds}
use Rattle.lending.proofs.Laws.{refused-first, refused-second, answered-two}
use Rattle.minimal.specs.Minimal.{minimal_form}
use Rattle.minimize.specs.Both.{Measured, FormsOf}
use Rattle.minimize.specs.declared.both.Measure.{Measure}
use Rattle.minimize.proofs.Writing.{form-length}

module _ {net x y : List ℕ} {f g : Measure} (a : words_reply net x ≡ Ok tt) (b : words_reply net y ≡ Ok tt)
    (m : Measured net x f) (n : Measured net y g) where
  first-long : length (minimal_form net x) ≡ 2 + 2 * f.entries
  first-long = form-length m.nodes _ m.counted.are

  second-long : length (minimal_form net y) ≡ 2 + 2 * g.entries
  second-long = form-length n.nodes _ n.counted.are

  accepted : and_then (words_reply net x) (words_reply net y) ≡ Ok tt
  accepted = then_next _ _ a ∙ b

  module _ {one two : List ℕ} where
    pub first_short : {w : Verdict} {r : Refusal} → w ≡ room_fault (length one) (2 + 2 * f.entries) → w ≡ Err r → FormsOf net x y one two (Err r) one two
    first_short h k = refused-first refl accepted (rw first-long (sym h ∙ k)) refl

    pub second_short : {w : Verdict} {r : Refusal} → w ≡ room_fault (length two) (2 + 2 * g.entries) → w ≡ Err r → FormsOf net x y one two (Err r) one two
    second_short h k = refused-second refl accepted (rw second-long (sym h ∙ k)) refl

    pub both-written : {v w : Verdict} {one' two' : List ℕ} → v ≡ room_fault (length one) (2 + 2 * f.entries) → v ≡ Ok tt
        → w ≡ room_fault (length two) (2 + 2 * g.entries) → w ≡ Ok tt → one' ≡ placed one 0 (minimal_form net x) → two' ≡ placed two 0 (minimal_form net y)
        → FormsOf net x y one two (Ok (record { first = 2 + 2 * f.entries; second = 2 + 2 * g.entries })) one' two'
    both-written h k i j o p =
        let s : room_fault (length one) (length (minimal_form net x)) ≡ Ok tt = rw first-long (sym h ∙ k) in
        let t : room_fault (length two) (length (minimal_form net y)) ≡ Ok tt = rw second-long (sym i ∙ j) in
        answered-two refl accepted s t (rw (first-long, second-long))
        (o ∙ placed-front (minimal_form net x) one (room-holds _ _ s)) (p ∙ placed-front (minimal_form net y) two (room-holds _ _ t))
