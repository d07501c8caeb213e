-- When the call of composition answers 30: exactly if no counts make a schedule, and exactly if in some reached state a task fires what is not enabled.
use Rattle.std.specs.Prelude.{Ok}
use Rattle.refusal.specs.declared.Reason.TheVariants as reason
use Rattle.scan.proofs.Basics.{ℕ, ◌<◌, arith, ◌≡◌, refl, sym, ap, ◌∙◌, ⊎_elim, inl, inr, List, [], ◌∷◌, ◌++◌}
use mathlib.Core.Logic.Iff
use Rattle.scan.proofs.Tests.{by_test, true-false}
use Rattle.scan.specs.Scan.{first}
use Rattle.scan.proofs.First.{none-some}
use Rattle.refusal.specs.Refusal.{refusal, refusal_number}
use Rattle.refusal.specs.Checks.{AllPass, FirstFails}
use Rattle.refusal.specs.declared.Position.TheVariants.{Nothing}
use Rattle.refusal.specs.declared.Refusal.{Refusal}
use Rattle.refusal.proofs.Judges.{fail-append}
use Rattle.refusal.proofs.Verdicts.{accepted-refused}
use Rattle.net.specs.Checks.{net_checks}
use Rattle.net.specs.Check.{net_reply}
use Rattle.net.proofs.Checks.{net-judged}
use Rattle.net.proofs.Laws.{sizes, some-source}
use Rattle.sequential.specs.Petri.{PetriNet, petri_net, Source}
use Rattle.lending.specs.Demands.{number, ByChecks}
use Rattle.lending.proofs.Lent.{Room}
use Rattle.lending.proofs.Judged.{words-judged}
use Rattle.lending.proofs.Done.{by-checks}
use Rattle.composed.specs.Product.{Tasks, OnePerSource}
use Rattle.composed.specs.Composed.{Dependent, Independent, is_dependent, Composable}
use Rattle.composed.specs.Sheet.{given_sheets}
use Rattle.composed.specs.Fault.{sheet_fault}
use Rattle.composed.specs.Checks.{each_sheet, last_checks, compose_checks}
use Rattle.composed.specs.Call.{compose_core, ComposeDone, plain_compose, ComposeAnswer}
use Rattle.composed.proofs.Chain.{sheet↔, sheets↔, sheets-tell, one-per-source}
use Rattle.composed.proofs.Dependent.{dependent↔, independent↔, dependent-early, independent↔composable}
use Rattle.composed.proofs.Done.{compose-law, compose-judged}
use Rattle.demands.specs.Compose.{tasks, all_compose_checks, SheetsPass, DependentAnswer}

module _ (net : List ℕ) (h : net_reply net ≡ Ok tt) where
  pub some_transition : 0 < (petri_net net).transitions
  some_transition = (sizes net h).some_transition

  pub source-there : (t : ℕ) × (t < (petri_net net).transitions) × Source (petri_net net) t
  source-there = let (t, l, z) = some-source net h in (t, l, (refl, z))

module _ (net : List ℕ) (k : ℕ) (a b c d : List ℕ) where
  abbrev N : PetriNet
  N = petri_net net

  abbrev sheet : ℕ → List ℕ
  sheet = given_sheets k a b c d

  abbrev X : Tasks
  X = tasks net k a b c d

  module _ {out s out' s' : List ℕ} {r : ComposeAnswer} (done : ComposeDone net k a b c d out s r out' s') (before : SheetsPass net k a b c d s) where
    h : net_reply net ≡ Ok tt
    h = (net-judged net).accepts.1 before.net_passes

    T : 0 < (petri_net net).transitions
    T = some_transition net h

    S : (t : ℕ) × (t < (petri_net net).transitions) × Source (petri_net net) t
    S = source-there net h

    all-sheets : AllPass (each_sheet (petri_net net) k (given_sheets k a b c d) k)
    all-sheets = (sheets↔ N T S k sheet k).1 (λ i l. (sheet↔ N T S k sheet i).0 (before.each_passes i l))

    tasks-pass : OnePerSource (petri_net net) (tasks net k a b c d)
    tasks-pass = one-per-source N T S k sheet before.number_passes (λ i l. (sheet↔ N T S k sheet i).0 (before.each_passes i l))

    told : ByChecks (all_compose_checks net k a b c d (Room (compose_core net k (given_sheets k a b c d)).results (out ∷ [])) s) (plain_compose r)
    told = by-checks (compose-law net k sheet) done (words-judged (compose_core net k sheet) (out ∷ []) (compose-judged net k sheet) (λ p. Iff.rfl))

    -- what fails where all of these pass
    first-left : {f : Refusal} → FirstFails (compose_checks (petri_net net) k (given_sheets k a b c d)) f → refusal_number f ≡ 30 → Independent (petri_net net) (tasks net k a b c d) → ⊥
    first-left {f} g e I =
        ⊎_elim (λ (n, q). n before.number_passes)
        (λ (p, g₁). ⊎_elim (λ z. none-some (first (sheet_fault N k sheet) k) f ((sheets-tell N T S k sheet k).passes.1 all-sheets) (((sheets-tell N T S k sheet k).fails f).1 z))
        (λ (z, g₂). ⊎_elim (λ (n, q). n before.few)
        (λ (u, g₃). ⊎_elim (λ (n, q). n I)
        (λ (v, g₄). ⊎_elim (λ (n, q). let w : ◌≡◌ {A = ℕ} 29 30 = sym (ap (λ (x : Refusal). refusal_number x) q) ∙ e in omega arith) (λ (w, y). y) g₄) g₃) g₂)
        ((fail-append (each_sheet N k sheet k) (last_checks N k sheet) f).0 g₁)) g

    to : number (plain_compose r) ≡ 30 → Composable (petri_net net) (tasks net k a b c d) → ⊥
    to e C =
        let I = (independent↔composable N X tasks-pass).1 C in
        let (f, g, q) = told.named (λ z. let w : ◌≡◌ {A = ℕ} 0 30 = sym z ∙ e in omega arith) in
        let m : refusal_number f ≡ 30 = sym (ap number q) ∙ e in
        ⊎_elim (λ (z, y). z before.scratch_holds)
        (λ (z, g₁). ⊎_elim
        (λ g₂. ⊎_elim (λ y. accepted-refused (net_reply net) f h (((net-judged net).refuses f).1 y)) (λ (y, g₃). first-left g₃ m I) ((fail-append (net_checks net) (compose_checks N k sheet) f).0 g₂))
        (λ (y, g₂). ⊎_elim (λ (v, w). let t : ◌≡◌ {A = ℕ} 22 30 = sym (ap (λ (x : Refusal). refusal_number x) w) ∙ m in omega arith) (λ (v, w). w) g₂)
        ((fail-append (net_checks net ++ compose_checks N k sheet) _ f).0 g₁)) g

    from : (Composable (petri_net net) (tasks net k a b c d) → ⊥) → number (plain_compose r) ≡ 30
    from n =
        let last = (fail-append (each_sheet N k sheet k) (last_checks N k sheet) (refusal reason.Dependent Nothing)).1
        (inr (all-sheets, inr (before.few, inl (λ I. n ((independent↔composable N X tasks-pass).0 I), refl)))) in
        let f = (fail-append (net_checks net ++ compose_checks N k sheet) _ (refusal reason.Dependent Nothing)).1
        (inl ((fail-append (net_checks net) (compose_checks N k sheet) (refusal reason.Dependent Nothing)).1 (inr (before.net_passes, inr (before.number_passes, last))))) in
        ap number (told.this (refusal reason.Dependent Nothing) (inr (before.scratch_holds, f)))

    -- whether some state fires a transition that is not enabled is decided
    disabled : number (plain_compose r) ≡ 30 → Dependent (petri_net net) (tasks net k a b c d)
    disabled e = by_test (is_dependent N X) (λ q. (dependent↔ N X tasks-pass).0 q) (λ q. absurd (to e ((independent↔composable N X tasks-pass).0 ((independent↔ N X tasks-pass).0 q))))

    given : Dependent (petri_net net) (tasks net k a b c d) → number (plain_compose r) ≡ 30
    given D = from (λ C. true-false (is_dependent N X) ((dependent↔ N X tasks-pass).1 D) ((independent↔ N X tasks-pass).1 ((independent↔composable N X tasks-pass).1 C)))

    pub is-dependent : DependentAnswer net k a b c d r
    is-dependent = record {
      each_source = tasks-pass;
      uncountable = (to, from);
      reached = (disabled, given);
      reached_enabled = (λ e. dependent-early N X tasks-pass (disabled e), λ (s, t, q, D). given (s, t, D));
    }
