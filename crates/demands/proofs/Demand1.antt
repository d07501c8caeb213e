-- Demand 1, proved: each call is an instance of what is true of every call.
use Rattle.std.specs.Prelude.{Err, Ok}
use Rattle.scan.proofs.Basics.{ℕ, ◌≡◌, refl, List, length, replicate}
use mathlib.Core.Logic.Iff
use Rattle.refusal.specs.Refusal.{plain_verdict, Verdict}
use Rattle.net.specs.Checks.{net_checks}
use Rattle.net.specs.Check.{NetDone}
use Rattle.net.proofs.Checks.{net-judged}
use Rattle.sequential.specs.Petri.{petri_net}
use Rattle.sequential.proofs.Bounds.{bounds-length}
use Rattle.lending.specs.Demands.{number, ByChecks}
use Rattle.lending.proofs.Done.{verdict-by-checks}
use Rattle.lending.proofs.Demands.{every-call-none, every-call-one, every-call-value}
use Rattle.schedule.specs.Walker.{walker}
use Rattle.schedule.specs.Firing.{fresh_walker}
use Rattle.schedule.specs.declared.Walker.{Walker}
use Rattle.schedule.proofs.Following.{end-length}
use Rattle.schedule.proofs.Done.{check-law, bounds-law, fire-law, run-law}
use Rattle.minimal.specs.Minimal.{minimal_form}
use Rattle.minimal.proofs.Done.{form-law}
use Rattle.demands.specs.Demand1.{Demand1}
use Rattle.demands.proofs.Calls.{unread-one}

-- ---- the net

pub net-by : (net : List ℕ) (v : Verdict) → NetDone net v → ByChecks (net_checks net) (plain_verdict v)
net-by net v e = rw e (verdict-by-checks _ (net_checks net) (net-judged net) refl)

refused-walker : (net : List ℕ) (v : Verdict) (w : Walker) → w ≡ fresh_walker v net → (number (plain_verdict v) ≡ 0 → ⊥) → w ≡ walker 0 (replicate 32 0)
refused-walker net (Ok tt) w e n = absurd (n refl)
refused-walker net (Err r) w e n = e

pub demand1 : Demand1
demand1 = record {
  net_check = net-by;
  fresh-walker = λ net v w d. (net-by net v d.reply, refused-walker net v w d.made);
  check = λ net sheet. every-call-none (check-law net sheet) refl;
  place_bounds = λ net sheet out. every-call-one (bounds-law net sheet) refl (λ p. rw (bounds-length (petri_net net) sheet) Iff.rfl);
  fire = λ net sheet w t. every-call-value (fire-law net sheet w t) refl (λ r. refl);
  run = λ net sheet firings out. every-call-one (run-law net sheet firings) refl (λ p. rw (end-length net firings) Iff.rfl);
  minimal-form = λ net sheet. (length (minimal_form net sheet), λ out. every-call-one (form-law net sheet) refl (λ p. Iff.rfl));
  bounds_unread = λ net sheet. unread-one (bounds-law net sheet) _ refl;
  run_unread = λ net sheet firings. unread-one (run-law net sheet firings) _ refl;
  form_unread = λ net sheet. unread-one (form-law net sheet) _ refl;
}
