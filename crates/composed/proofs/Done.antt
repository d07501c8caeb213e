-- Composition as an instance of what holds of every call: the checks of its words, its paths, and which schedule a refusal names.
use Rattle.std.specs.Prelude.{Err, Ok}
use Rattle.refusal.specs.declared.Reason.TheVariants.{Dependent, TooLarge, WrongNumber}
use Rattle.scan.proofs.Basics.{ℕ, zero, suc, ◌<◌, ◌≡◌, refl, ap, ◌∙◌, Bool, true, false, cond, eqb, Option, none, some, List, [], ◌∷◌, ◌++◌, length}
use Rattle.scan.specs.Scan.{when, found, passing}
use Rattle.scan.proofs.Tests.{ne_eqb}
use Rattle.scan.proofs.First.{or_else-next, or_else-hit, when-hit, when-miss, first-empty, first-hit}
use Rattle.refusal.specs.Refusal.{refusal, refusal_number}
use Rattle.refusal.specs.Verdict.{verdict_of}
use Rattle.refusal.specs.Finding.{found_by, finding}
use Rattle.refusal.specs.declared.Position.TheVariants.{Nothing}
use Rattle.refusal.specs.declared.Refusal.{Refusal}
use Rattle.refusal.proofs.Verdicts.{then_next}
use Rattle.refusal.proofs.Judges.{Judges, judges-found, judges-then, properly, proper-append, fails-number}
use Rattle.net.specs.Check.{net_reply}
use Rattle.net.specs.Checks.{net_checks}
use Rattle.net.proofs.Checks.{net-judged}
use Rattle.net.proofs.Laws.{sizes, some-source}
use Rattle.sequential.specs.Petri.{PetriNet, petri_net}
use Rattle.sequential.specs.Checks.{sheet_checks}
use Rattle.sequential.proofs.Accepted.{sheet-tells}
use Rattle.lending.proofs.Judged.{Lawful}
use Rattle.composed.specs.Composed.{is_dependent}
use Rattle.composed.specs.Sheet.{net_of, tasks_of, composed_sheet}
use Rattle.composed.specs.Checks.{each_sheet, last_checks, compose_checks}
use Rattle.composed.specs.Fault.{number_fails, sheet_fault, too_many, limits_exceeded, last_tests, compose_fault, sheet_fails, refused_sheet}
use Rattle.composed.specs.Call.{compose_verdict, sheet_beside, compose_core, plain_compose}
use Rattle.composed.proofs.Chain.{compose-tells}

-- ---- the instance

module _ (net : List ℕ) (number : ℕ) (sheet : ℕ → List ℕ) where
  pub compose-judged : Judges (compose_verdict net number sheet) (net_checks net ++ compose_checks (petri_net net) number sheet)
  unfolding compose_verdict
  compose-judged = judges-then (net_reply net) _ (net_checks net) (compose_checks (petri_net net) number sheet) (net-judged net)
      (λ p.
      let h = (net-judged net).accepts.1 p in
      let (t, l, z) = some-source net h in
      judges-found _ (compose_checks (petri_net net) number sheet) (compose-tells (petri_net net) (sizes net h).some_transition (t, l, (refl, z)) number sheet))

  sheets-proper : (n : ℕ) → properly (each_sheet (petri_net net) number sheet n) ≡ true
  unfolding each_sheet
  sheets-proper zero = refl
  sheets-proper (suc n) = proper-append (each_sheet (petri_net net) number sheet n) (sheet_checks (net_of (petri_net net) n) (sheet n)) (sheets-proper n) refl

  pub compose-law : Lawful (compose_core net number sheet) plain_compose (length (composed_sheet (petri_net net) number sheet) ∷ 0 ∷ 0 ∷ []) (net_checks net ++ compose_checks
      (petri_net net) number sheet)
  compose-law = record {
    judged = compose-judged;
    proper = proper-append (net_checks net) (compose_checks (petri_net net) number sheet) refl
        (proper-append (each_sheet (petri_net net) number sheet number) (last_checks (petri_net net) number sheet) (sheets-proper number) refl);
    plain-accepted = refl;
    own-length = refl;
    plain-refused = λ r. refl;
  }

-- ---- the paths

module _ (net : List ℕ) (number : ℕ) (sheet : ℕ → List ℕ) where
  abbrev N : PetriNet
  N = petri_net net

  pub net_refused : {r : Refusal} → net_reply net ≡ Err r → (compose_verdict net number sheet ≡ Err r) × (sheet_beside net number sheet r ≡ none)
  unfolding compose_verdict sheet_beside
  net_refused {r} h = (rw h refl, rw h (either (eqb (refusal_number r) 21)))
    where
      either : (b : Bool) → ◌≡◌ {A = Option ℕ} (cond b none none) none
      either true = refl
      either false = refl

  module _ (h : net_reply net ≡ Ok tt) where
    found-verdict : (o : Option Refusal) → compose_fault N number sheet ≡ o → compose_verdict net number sheet ≡ verdict_of o
    unfolding compose_verdict
    found-verdict o e = then_next (net_reply net) _ h ∙ ap verdict_of e

    pub number-refused : number_fails N number sheet ≡ true
        → (compose_verdict net number sheet ≡ Err (refusal WrongNumber Nothing)) × (sheet_beside net number sheet (refusal WrongNumber Nothing) ≡ none)
    unfolding compose_fault finding found_by sheet_beside refused_sheet
    number-refused e = (found-verdict (some (refusal WrongNumber Nothing)) (or_else-hit _ _ _ (when-hit _ _ e)), rw (h, e) refl)

    module _ (c : number_fails N number sheet ≡ false) where
      -- the first of the schedules that is refused
      module _ {i : ℕ} (l : i < number) (before : (j : ℕ) → j < i → sheet_fault N number sheet j ≡ none) {r : Refusal} (there : sheet_fault N number sheet i ≡ some r) where
        pub sheet-refused : (compose_verdict net number sheet ≡ Err r) × (sheet_beside net number sheet r ≡ some i)
        unfolding compose_fault finding found_by sheet_beside refused_sheet sheet_fails found passing when
        sheet-refused = (
          found-verdict (some r) (or_else-next _ _ (when-miss _ _ c)
              ∙ or_else-hit _ _ _ (first-hit (sheet_fault N number sheet) i r (first-empty (sheet_fault N number sheet) i before) there number l)),
          rw (ne_eqb (refusal_number r) 21 other, h, c) (first-hit (passing (sheet_fails N number sheet)) i i
              (first-empty (passing (sheet_fails N number sheet)) i (λ j k. rw (before j k) refl)) (rw there refl) number l),
        )
          where
            other : refusal_number r ≡ 21 → ⊥
            other = (fails-number (sheet_checks (net_of N i) (sheet i)) r refl
                (((sheet-tells (net_of N i) (sheet i) (sizes net h).some_transition).fails r).0 (unfold sheet_fault in there))).1

      module _ (pass : (i : ℕ) → i < number → sheet_fault N number sheet i ≡ none) where
        last-verdict : (o : Option Refusal) → finding (last_checks N number sheet) (last_tests N number sheet) ≡ o → compose_verdict net number sheet ≡ verdict_of o
        unfolding compose_fault finding found_by
        last-verdict o e = found-verdict o (or_else-next _ _ (when-miss _ _ c) ∙ or_else-next _ _ (first-empty (sheet_fault N number sheet) number pass) ∙ e)

        -- no schedule is named from here on
        pub none_beside : (r : Refusal) → sheet_beside net number sheet r ≡ none
        unfolding sheet_beside refused_sheet sheet_fails found passing when
        none_beside r = rw (h, c, first-empty (passing (sheet_fails N number sheet)) number (λ j k. rw (pass j k) refl)) (either (eqb (refusal_number r) 21))
          where
            either : (b : Bool) → ◌≡◌ {A = Option ℕ} (cond b none none) none
            either true = refl
            either false = refl

        pub many-refused : too_many N number sheet ≡ true → compose_verdict net number sheet ≡ Err (refusal TooLarge Nothing)
        unfolding finding found_by
        many-refused e = last-verdict (some (refusal TooLarge Nothing)) (or_else-hit _ _ _ (when-hit _ _ e))

        module _ (few : too_many N number sheet ≡ false) where
          pub dependent-refused : is_dependent N (tasks_of N number sheet) ≡ true → compose_verdict net number sheet ≡ Err (refusal Dependent Nothing)
          unfolding finding found_by
          dependent-refused e = last-verdict (some (refusal Dependent Nothing)) (or_else-next _ _ (when-miss _ _ few) ∙ or_else-hit _ _ _ (when-hit _ _ e))

          module _ (free : is_dependent N (tasks_of N number sheet) ≡ false) where
            pub limits-refused : limits_exceeded N number sheet ≡ true → compose_verdict net number sheet ≡ Err (refusal TooLarge Nothing)
            unfolding finding found_by
            limits-refused e = last-verdict (some (refusal TooLarge Nothing)) (or_else-next _ _ (when-miss _ _ few) ∙ or_else-next _ _ (when-miss _ _ free) ∙ when-hit _ _ e)

            pub all-passed : limits_exceeded N number sheet ≡ false → compose_verdict net number sheet ≡ Ok tt
            unfolding finding found_by
            all-passed e = last-verdict none (or_else-next _ _ (when-miss _ _ few) ∙ or_else-next _ _ (when-miss _ _ free) ∙ when-miss _ _ e)
