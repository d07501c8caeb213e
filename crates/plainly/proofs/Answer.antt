-- The answer from what the clauses find, and the scratch that is left.
use Rattle.std.specs.Prelude.{Err, Ok}
use Rattle.refusal.specs.Refusal.{Verdict}
use Rattle.scan.proofs.Basics.{ℕ, ◌+◌, arith, ◌≡◌, sym, ◌∙◌, List, drop}
use lib.ListN.{length-drop}
use lib.Seq.{get_or-drop, ext_get_or}
use Rattle.scan.specs.Front.{cleared}
use Rattle.refusal.specs.Verdict.{verdict_of}
use Rattle.refusal.specs.declared.Refusal.{Refusal}
use Rattle.refusal.proofs.Verdicts.{answer-none, answer-some}
use Rattle.automaton.specs.Automaton.{Automaton}
use Rattle.sequential.specs.Petri.{PetriNet}
use Rattle.plainly.specs.Numbers.{FrontAlone}
use Rattle.plainly.specs.Clauses.{clauses_fault, clauses_answer, arc_total, await_total}

module _ (N : PetriNet) (A : Automaton) where
  pub failed-is : {v : Verdict} {r : Refusal} → v ≡ verdict_of (clauses_fault N A) → v ≡ Err r → Err r ≡ clauses_answer N A
  unfolding clauses_answer
  failed-is {r = r} e h = rw (answer-some (clauses_fault N A) r (sym e ∙ h))

  pub passed_is : {v : Verdict} → v ≡ verdict_of (clauses_fault N A) → v ≡ Ok tt → {a w : ℕ} → a ≡ arc_total N A → w ≡ await_total N A
      → Ok (record { nodes = A.nodes; arcs = a; awaits = w }) ≡ clauses_answer N A
  unfolding clauses_answer
  passed_is e h f g = rw (answer-none (clauses_fault N A) (sym e ∙ h), f, g)

-- ---- the scratch that is left

-- a buffer that differs in its front alone is cleared to the same
pub cleared-same : (n : ℕ) (before after : List ℕ) → FrontAlone n before after → cleared n after ≡ cleared n before
unfolding cleared
cleared-same n before after h =
    let d : drop n after ≡ drop n before = ext_get_or 0 (drop n after) (drop n before) (simp length-drop (omega (arith, h.same_length)))
    (λ i l. get_or-drop n after i 0 ∙ h.past (n + i) (omega arith) ∙ sym (get_or-drop n before i 0)) in
    rw (d, h.same_length)
