-- The calls as instances of what holds of every call: the schedule check's answer, and the checks of each call's words.
use Rattle.std.specs.Prelude.{Err, Ok, Some}
use Rattle.scan.proofs.Basics.{ℕ, ◌≡◌, refl, ap, ◌∙◌, Option, List, [], ◌∷◌, ◌++◌, length}
use Rattle.refusal.specs.Refusal.{plain_verdict, Verdict}
use Rattle.refusal.specs.Checks.{Check}
use Rattle.refusal.specs.Verdict.{verdict_of, and_then}
use Rattle.refusal.specs.declared.Refusal.{Refusal}
use Rattle.refusal.proofs.Checks.{Tells}
use Rattle.refusal.proofs.Judges.{Judges, judges-found, judges-then}
use Rattle.net.specs.Checks.{net_checks}
use Rattle.sequential.specs.Petri.{petri_net}
use Rattle.sequential.specs.Checks.{sheet_checks}
use Rattle.sequential.specs.Check.{schedule_reply}
use Rattle.sequential.proofs.Accepted.{schedule-judged}
use Rattle.judge.specs.Answer.{counts_of, check_answer, plain_check, CheckAnswer}
use Rattle.lending.specs.Call.{WordsDone}
use Rattle.lending.proofs.Laws.{refused-words, answered-none}
use Rattle.lending.proofs.Judged.{Lawful}
use Rattle.schedule.specs.Walker.{walker_checks, run_checks}
use Rattle.refusal.specs.Index.{plain_index}
use Rattle.schedule.specs.Firing.{entry_fired, node_after, last_entry}
use Rattle.schedule.specs.Calls.{check_core, bounds_core, fire_core, run_core}
use Rattle.schedule.specs.Plain.{plain_fire, plain_run}
use Rattle.schedule.specs.declared.Walker.{Walker}
use Rattle.schedule.proofs.Walkers.{step-tells}
use Rattle.schedule.proofs.Following.{run-tells}

-- ---- the schedule check without scratch

pub check-words : (net sheet : List ℕ) (r : CheckAnswer) → r ≡ check_answer (schedule_reply net sheet) (counts_of net sheet) → WordsDone (check_core net sheet) [] r []
check-words net sheet r h = go (schedule_reply net sheet) refl
  where
    go : (v : Verdict) → schedule_reply net sheet ≡ v → WordsDone (check_core net sheet) [] r []
    go (Ok tt) e = answered-none refl e (h ∙ ap (λ (v : Verdict). check_answer v (counts_of net sheet)) e)
    go (Err x) e = refused-words e (h ∙ ap (λ (v : Verdict). check_answer v (counts_of net sheet)) e)

-- ---- what each call shows of its core

module _ (net sheet : List ℕ) where
  abbrev checks : List Check
  checks = net_checks net ++ sheet_checks (petri_net net) sheet

  -- the checks of the schedule, and then a call's own
  then-own : {found : Option Refusal} {own : List Check} → Tells found own → Judges (and_then (schedule_reply net sheet) (verdict_of found)) (checks ++ own)
  then-own h = judges-then _ _ checks _ (schedule-judged net sheet) (λ p. judges-found _ _ h)

  pub check-law : Lawful (check_core net sheet) plain_check ((counts_of net sheet).nodes ∷ (counts_of net sheet).arcs ∷ (counts_of net sheet).awaits ∷ []) checks
  check-law = record { judged = schedule-judged net sheet; proper = refl; plain-accepted = refl; own-length = refl; plain-refused = λ r. refl }

  pub bounds-law : Lawful (bounds_core net sheet) plain_verdict (0 ∷ 0 ∷ 0 ∷ []) checks
  bounds-law = record { judged = schedule-judged net sheet; proper = refl; plain-accepted = refl; own-length = refl; plain-refused = λ r. refl }

  pub fire-law : (w : Walker) (t : ℕ) → Lawful (fire_core net sheet w t) (λ a. plain_fire a.0) (plain_index (Some (entry_fired (petri_net net) sheet w t)) ∷ 0 ∷ 0 ∷ [])
      (checks ++ walker_checks (petri_net net) sheet w t)
  fire-law w t = record { judged = then-own (step-tells (petri_net net) sheet w t); proper = refl; plain-accepted = refl; own-length = refl; plain-refused = λ r. refl }

  pub run-law : (firings : List ℕ) → Lawful (run_core net sheet firings) plain_run
      (length firings ∷ node_after (petri_net net) sheet firings (length firings) ∷ plain_index (last_entry (petri_net net) sheet firings) ∷ [])
      (checks ++ run_checks (petri_net net) sheet firings)
  run-law firings = record { judged = then-own (run-tells (petri_net net) sheet firings); proper = refl; plain-accepted = refl; own-length = refl; plain-refused = λ r. refl }
