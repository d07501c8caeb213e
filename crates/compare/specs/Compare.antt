-- Two schedules of a net compared (§10.50): what is made of their words, what is written and answered, and the answer as plain numbers.
use Rattle.std.specs.Prelude.{ℕ, Bool, cond, ◌&&◌, ◌||◌, List, [], ◌∷◌, leb, eqb, length, get_or, Result, Err, None, Ok, Some}
use Rattle.scan.specs.Scan.{all, bit}
use Rattle.refusal.specs.Refusal.{Verdict, refusal_number}
use Rattle.refusal.specs.Verdict.{verdict_of, and_then}
use Rattle.refusal.specs.declared.Refusal.{Refusal}
use Rattle.sequential.specs.Petri.{petri_net}
use Rattle.sequential.specs.Check.{schedule_fault, schedule_reply}
use Rattle.lending.specs.Call.{Core, WordsDone}
use Rattle.lending.specs.Fault.{fault, plain_told}
use Rattle.lending.specs.declared.Fault.{Fault}
use Rattle.minimal.specs.Minimal.{minimal_form}
use Rattle.compare.specs.declared.Comparison.{Comparison}

-- both lengths and whether the forms are equal, or a refusal and the schedule that is refused
abbrev pub CompareAnswer : Type 0
CompareAnswer = Result Comparison Fault

-- ---- refusals

-- the numbers by which a schedule is refused: §7.6 to §7.17, §7.27
unfoldable pub of_schedule : ℕ → Bool
of_schedule number = eqb number 27 || (leb 6 number && leb number 17)

-- a refusal by one of these numbers names the schedule; any other names none
abbrev pub refused_by : Refusal → ℕ → CompareAnswer
refused_by r sheet = Err (fault r (cond (of_schedule (refusal_number r)) (Some sheet) None))

-- the schedule that is named: the first (0), or the second (1) if the first is accepted
abbrev pub about : Verdict → ℕ
about (Ok tt) = 1
about (Err r) = 0

-- all checks of the net, then of the first schedule, then of the second: §7.67
unfoldable pub compare_verdict : List ℕ → List ℕ → List ℕ → Verdict
compare_verdict net first second = and_then (schedule_reply net first) (verdict_of (schedule_fault (petri_net net) second))

-- ---- the comparison

-- word i is the same in both
unfoldable pub same_at : List ℕ → List ℕ → ℕ → Bool
same_at one two i = eqb (get_or one i 0) (get_or two i 0)

-- the first m words of one and the first n words of two are equal in length and word for word: §11.8
unfoldable pub same_fronts : List ℕ → List ℕ → ℕ → ℕ → Bool
same_fronts one two m n = eqb m n && all (same_at one two) m

unfoldable pub same_forms : List ℕ → List ℕ → List ℕ → Bool
same_forms net first second = same_fronts (minimal_form net first) (minimal_form net second) (length (minimal_form net first)) (length (minimal_form net second))

abbrev pub compare_core : List ℕ → List ℕ → List ℕ → Core CompareAnswer
compare_core net first second = record {
  verdict = compare_verdict net first second;
  accepted = Ok (record { first = length (minimal_form net first); second = length (minimal_form net second); same = same_forms net first second });
  refused = λ r. refused_by r (about (schedule_reply net first));
  results = minimal_form net first ∷ minimal_form net second ∷ [];
}

-- the postcondition without scratch
abbrev pub CompareWritten : List ℕ → List ℕ → List ℕ → List ℕ → List ℕ → CompareAnswer → List ℕ → List ℕ → Type 0
CompareWritten net first second one two r one' two' = WordsDone (compare_core net first second) (one ∷ two ∷ []) r (one' ∷ two' ∷ [])

-- number, kind and position, and three own numbers: both lengths, and 1 if the forms are equal (§8.1). They are 0 if refused (§8.3)
abbrev pub plain_compare : CompareAnswer → List ℕ
plain_compare answer = plain_told (λ c. c.first ∷ c.second ∷ bit c.same ∷ []) answer
