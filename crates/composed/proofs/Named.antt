-- The last of the call's own numbers names the first schedule that is refused, and none if the refusal is about no schedule (§10.30).
use Rattle.std.specs.Prelude.{Err, Ok}
use Rattle.refusal.specs.Refusal.{Verdict, refusal_number}
use Rattle.scan.proofs.Basics.{ℕ, ◌+◌, ◌≤◌, ◌<◌, arith, ◌≡◌, refl, sym, ap, ◌∙◌, ⊎_elim, ◌↔◌, true, false, eqb, Option, none, some, List, length}
use mathlib.Core.Logic.Iff
use Rattle.scan.proofs.Tests.{by_test, eqb-false, true-false}
use Rattle.scan.specs.Scan.{found, passing}
use Rattle.scan.proofs.First.{none-some, first-at, when-none, when-some}
use Rattle.refusal.specs.Limits.{scratch_limit}
use Rattle.refusal.specs.Checks.{AllPass}
use Rattle.refusal.specs.declared.Refusal.{Refusal}
use Rattle.refusal.proofs.Verdicts.{then-refused}
use Rattle.net.specs.Check.{net_reply}
use Rattle.net.proofs.Checks.{net-judged}
use Rattle.net.proofs.Laws.{sizes, some-source}
use Rattle.sequential.specs.Petri.{petri_net}
use Rattle.sequential.specs.Checks.{sheet_checks}
use Rattle.sequential.proofs.Accepted.{sheet-tells}
use Rattle.lending.specs.Call.{CallDone, words_verdict, call_verdict, answer_of}
use Rattle.refusal.specs.Index.{plain_index, index_from}
use Rattle.lending.specs.Fault.{sheet_index}
use Rattle.lending.proofs.Laws.{call-enough}
use Rattle.lending.proofs.Judged.{call-judged, words-judged}
use Rattle.lending.proofs.Lent.{Room}
use Rattle.composed.specs.Sheet.{net_of}
use Rattle.composed.specs.Fault.{number_fails, sheet_fault, sheet_fails, refused_sheet}
use Rattle.composed.specs.Call.{where_accepted, sheet_beside, compose_core, ComposeAnswer}
use Rattle.composed.specs.Named.{Named}
use Rattle.composed.proofs.Chain.{number↔}
use Rattle.composed.proofs.Done.{compose-law, sheet-refused}

-- ---- what a name says

index-told : (o : Option ℕ) (i : ℕ) → plain_index (index_from o) ≡ i + 1 → o ≡ some i
index-told none i e = absurd (omega arith)
index-told (some j) i e = ap some (omega arith)

named-net : (v : Verdict) (o : Option ℕ) (i : ℕ) → where_accepted v o ≡ some i → (v ≡ Ok tt) × (o ≡ some i)
named-net (Ok tt) o i e = (refl, e)
named-net (Err r) o i e = none-some none i refl e

not_found : (o : Option Refusal) → found o ≡ false → o ≡ none
unfolding found
not_found none e = refl
not_found (some r) e = true-false true refl e

found-fault : (o : Option Refusal) → (o ≡ none → ⊥) → (r : Refusal) × (o ≡ some r)
found-fault none n = absurd (n refl)
found-fault (some r) n = (r, refl)

module _ (net : List ℕ) (number : ℕ) (sheet : ℕ → List ℕ) where
  refused_says : (i : ℕ) → refused_sheet (petri_net net) number sheet ≡ some i → (number_fails (petri_net net) number sheet ≡ false) × (i < number)
      × (sheet_fails (petri_net net) number sheet i ≡ true) × ((j : ℕ) → j < i → sheet_fails (petri_net net) number sheet j ≡ false)
  unfolding refused_sheet passing
  refused_says i k = by_test (number_fails (petri_net net) number sheet) (λ q. none-some none i refl (rw q at k)) (λ q.
      let (j, l, z, b) = first-at (passing (sheet_fails (petri_net net) number sheet)) number i (rw q at k) in
      let (t, s) = when-some _ _ _ z in
      (q, rw s at l, rw s at t, λ m n. when-none _ _ (b m (omega arith))))

  beside-says : (r : Refusal) (i : ℕ) → sheet_beside net number sheet r ≡ some i
      → (refusal_number r ≡ 21 → ⊥) × (net_reply net ≡ Ok tt) × (number_fails (petri_net net) number sheet ≡ false) × (i < number)
      × (sheet_fails (petri_net net) number sheet i ≡ true) × ((j : ℕ) → j < i → sheet_fails (petri_net net) number sheet j ≡ false)
  unfolding sheet_beside
  beside-says r i e = by_test (eqb (refusal_number r) 21) (λ q. none-some none i refl (rw q at e)) (λ q.
      let (h, k) = named-net (net_reply net) (refused_sheet (petri_net net) number sheet) i (rw q at e) in
      let (c, l, z, b) = refused_says i k in
      (eqb-false (refusal_number r) 21 q, h, c, l, z, b))

  module _ (h : net_reply net ≡ Ok tt) where
    sheet-told : (i : ℕ) → (sheet_fails (petri_net net) number sheet i ≡ false) ↔ AllPass (sheet_checks (net_of (petri_net net) i) (sheet i))
    unfolding sheet_fails sheet_fault found
    sheet-told i =
        let (f, g) = (sheet-tells (net_of (petri_net net) i) (sheet i) (sizes net h).some_transition).passes in
        (λ e. f (not_found _ e), λ p. rw (g p) refl)

  -- ---- of a call that is done

  module _ {outs outs' : List (List ℕ)} {s s' : List ℕ} {a : ComposeAnswer} (d : CallDone scratch_limit (compose_core net number sheet) outs s a outs' s') where
    abbrev answered : Verdict
    answered = call_verdict scratch_limit (compose_core net number sheet) outs (length s)

    name_out : (i : ℕ) → sheet_index a ≡ i + 1 → Named net number sheet s i
    name_out i e = go answered refl (ap sheet_index (sym d.reply) ∙ e)
      where
        enough : (r : Refusal) → answered ≡ Err r → (refusal_number r ≡ 21 → ⊥) → scratch_limit ≤ length s
        enough r q n =
            ⊎_elim (λ (f, z). absurd (n (ap (λ (x : Refusal). refusal_number x) z))) (λ (l, f). l)
            (((call-judged (compose_core net number sheet) outs scratch_limit s
            (words-judged (compose_core net number sheet) outs {Fits = Room (compose_core net number sheet).results outs} (compose-law net number sheet).judged (λ p. Iff.rfl))).refuses r).0 q)

        go : (v : Verdict) → answered ≡ v → sheet_index (answer_of (compose_core net number sheet) v) ≡ i + 1 → Named net number sheet s i
        go (Ok tt) q z = absurd (omega arith)
        go (Err r) q z =
            let (n, h, c, l, f, b) = beside-says r i (index-told _ i z) in
            let (t, k, y) = some-source net h in
            record {
              enough = enough r q n;
              is_net = (net-judged net).accepts.0 h;
              count = (number↔ (petri_net net) (sizes net h).some_transition (t, k, (refl, y)) number sheet).0 c;
              below = l;
              before = λ j m. (sheet-told h j).0 (b j m);
              fails = λ p. true-false (sheet_fails (petri_net net) number sheet i) f ((sheet-told h i).1 p);
            }

    name_in : (i : ℕ) → Named net number sheet s i → sheet_index a ≡ i + 1
    unfolding words_verdict
    name_in i n =
        let h = (net-judged net).accepts.1 n.is_net in
        let (t, k, y) = some-source net h in
        let c = (number↔ (petri_net net) (sizes net h).some_transition (t, k, (refl, y)) number sheet).1 n.count in
        let (r, e) = found-fault (sheet_fault (petri_net net) number sheet i) (λ q. n.fails ((sheet-told h i).0 (unfold sheet_fails found in (rw q refl)))) in
        let (v, b) = sheet-refused net number sheet h c n.below (λ j m. not_found _ (unfold sheet_fails in ((sheet-told h j).1 (n.before j m)))) e in
        let q : answered ≡ Err r = call-enough (compose_core net number sheet) outs scratch_limit (length s) n.enough ∙ then-refused _ _ r v ∙ v in
        ap sheet_index (d.reply ∙ ap (answer_of (compose_core net number sheet)) q) ∙ ap (λ (o : Option ℕ). plain_index (index_from o)) b

    pub named : (i : ℕ) → (sheet_index a ≡ i + 1) ↔ Named net number sheet s i
    named i = (name_out i, name_in i)
