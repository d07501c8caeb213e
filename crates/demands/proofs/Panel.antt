-- What is promised of the calls for the small panel, proved: with enough scratch, a call's answer does not depend on its limit.
use Rattle.scan.proofs.Basics.{ℕ, ◌≡◌, refl, ap, List, [], ◌∷◌, length}
use mathlib.Core.Logic.Iff
use Rattle.refusal.specs.Limits.{scratch_limit}
use Rattle.sequential.specs.Petri.{petri_net}
use Rattle.sequential.proofs.Bounds.{bounds-length}
use Rattle.lending.specs.Call.{Core, CallDone}
use Rattle.lending.proofs.Demands.{every-call-none, every-call-one, every-call-two, every-call-value, same-from-any-limit}
use Rattle.schedule.proofs.Following.{end-length}
use Rattle.schedule.proofs.Done.{check-law, bounds-law, fire-law, run-law}
use Rattle.schedule.specs.Calls.{check_core, bounds_core, fire_core, run_core}
use Rattle.replay.specs.Calls.{replay_core}
use Rattle.replay.proofs.Done.{replay-law}
use Rattle.minimal.specs.Minimal.{minimal_form}
use Rattle.minimal.specs.Form.{form_core}
use Rattle.minimal.proofs.Done.{form-law}
use Rattle.mended.specs.Mend.{mended_words}
use Rattle.mended.specs.Changes.{changes}
use Rattle.mended.specs.Call.{mend_core}
use Rattle.mended.proofs.Done.{mend-law}
use Rattle.panel.specs.Calls.{panel_limit}
use Rattle.demands.specs.Panel.{SameOnPanel, PanelDemand}
use Rattle.demands.proofs.Checked.{check-zero, zero-check, reply-accepted, accepted-reply}
use Rattle.demands.proofs.Replay.{rows_fit_lem}

-- ---- the same from less scratch, for a call with no output buffer, one or two, and for one that hands back a value

module _ {Answer : Type 0} (core : Core Answer) where
  same_none : SameOnPanel {Left = Unit} (λ s a left s'. CallDone panel_limit core [] s a [] s') (λ s a left s'. CallDone scratch_limit core [] s a [] s')
  same_none s t s' t' a b left right l m c d = ((same-from-any-limit core panel_limit scratch_limit [] [] [] s t s' t' a b l m c d).0, refl)

  same-one : (out : List ℕ) → SameOnPanel (λ s a out' s'. CallDone panel_limit core (out ∷ []) s a (out' ∷ []) s') (λ s a out' s'. CallDone scratch_limit core (out ∷ []) s a (out' ∷ []) s')
  same-one out s t s' t' a b left right l m c d = let (p, q) = same-from-any-limit core panel_limit scratch_limit _ _ _ s t s' t' a b l m c d in (p, cc)

  same-two : (out₁ out₂ : List ℕ)
      → SameOnPanel {Left = List ℕ × List ℕ} (λ s a left s'. CallDone panel_limit core (out₁ ∷ out₂ ∷ []) s a (left.0 ∷ left.1 ∷ []) s')
      (λ s a left s'. CallDone scratch_limit core (out₁ ∷ out₂ ∷ []) s a (left.0 ∷ left.1 ∷ []) s')
  same-two out₁ out₂ s t s' t' a b (x, y) (z, w) l m c d =
      let (p, q) = same-from-any-limit core panel_limit scratch_limit _ _ _ s t s' t' a b l m c d in
      let e : x ≡ z = cc in
      let f : y ≡ w = cc in
      (p, rw (e, f))

same-value : {Answer Value : Type 0} (core : Core (Answer × Value))
    → SameOnPanel (λ s a value s'. CallDone panel_limit core [] s (a, value) [] s') (λ s a value s'. CallDone scratch_limit core [] s (a, value) [] s')
same-value {Answer} {Value} core s t s' t' a b left right l m c d =
    let p = (same_none core s t s' t' (a, left) (b, right) tt tt l m c d).0 in
    (ap (λ (x : Answer × Value). x.0) p, ap (λ (x : Answer × Value). x.1) p)

-- ---- all of it

pub panel-demand : PanelDemand
panel-demand = record {
  check = λ net sheet. same_none (check_core net sheet);
  place_bounds = λ net sheet out. same-one (bounds_core net sheet) out;
  fire = λ net sheet w t. same-value (fire_core net sheet w t);
  run = λ net sheet firings out. same-one (run_core net sheet firings) out;
  minimal-form = λ net sheet out. same-one (form_core net sheet) out;
  replay = λ net sheet log taken put. same-two (replay_core net sheet log) taken put;
  mend = λ net sheet out list. same-two (mend_core net sheet) out list;
  every_check = λ net sheet. every-call-none (check-law net sheet) refl;
  every_bounds = λ net sheet out. every-call-one (bounds-law net sheet) refl (λ p. rw (bounds-length (petri_net net) sheet) Iff.rfl);
  every_fire = λ net sheet w t. every-call-value (fire-law net sheet w t) refl (λ r. refl);
  every_run = λ net sheet firings out. every-call-one (run-law net sheet firings) refl (λ p. rw (end-length net firings) Iff.rfl);
  every_form = λ net sheet. (length (minimal_form net sheet), λ out. every-call-one (form-law net sheet) refl (λ p. Iff.rfl));
  every_replay = λ net sheet log taken put. every-call-two (replay-law net sheet log) refl (λ p. rows_fit_lem net log taken put);
  every_mend = λ net sheet. (length (mended_words net sheet), length (changes net sheet), λ out list. every-call-two (mend-law net sheet) refl (λ p. Iff.rfl));
  accepted = λ net sheet. (
    λ a. reply-accepted net sheet ((check-zero net sheet a.done).0 a.zero).1,
    λ a. let (s, s', b, d, z) = zero-check panel_limit net sheet (accepted-reply net sheet a) in record { scratch = s; scratch' = s'; answer = b; done = d; zero = z },
  );
}
