-- The call as an instance of what holds of every call; and the function that asks only for readable words does the same for a schedule.
use Rattle.std.specs.Prelude.{Ok}
use Rattle.scan.proofs.Basics.{ℕ, ◌≡◌, refl, ap, ◌∙◌, List, [], ◌∷◌, ◌++◌, length}
use Rattle.net.specs.Check.{net_reply}
use Rattle.net.specs.Checks.{net_checks}
use Rattle.sequential.specs.Petri.{petri_net}
use Rattle.sequential.specs.Checks.{sheet_checks}
use Rattle.sequential.specs.Check.{words_fault, schedule_fault, schedule_reply}
use Rattle.sequential.proofs.Accepted.{schedule-judged}
use Rattle.scan.proofs.First.{or_else-left}
use Rattle.refusal.specs.Verdict.{verdict_of}
use Rattle.refusal.proofs.Verdicts.{then_next, then-accepted, answer-none}
use Rattle.graph.specs.Readable.{words_reply}
use Rattle.lending.specs.Call.{words_verdict}
use Rattle.lending.proofs.Judged.{Lawful}
use Rattle.minimal.specs.Minimal.{minimal_form}
use Rattle.minimal.specs.Form.{form_core, plain_form, FormOf, FormWritten, FormAnswer}

pub form-law : (net sheet : List ℕ) → Lawful (form_core net sheet) plain_form (length (minimal_form net sheet) ∷ 0 ∷ 0 ∷ []) (net_checks net ++ sheet_checks (petri_net net) sheet)
form-law net sheet = record { judged = schedule-judged net sheet; proper = refl; plain-accepted = refl; own-length = refl; plain-refused = λ r. refl }

module _ (net sheet : List ℕ) (h : schedule_reply net sheet ≡ Ok tt) where
  -- the words of a schedule can be read
  pub words-accepted : words_reply net sheet ≡ Ok tt
  unfolding words_reply schedule_reply schedule_fault
  words-accepted =
      let (a, b) = then-accepted (net_reply net) (verdict_of (schedule_fault (petri_net net) sheet)) h in
      then_next (net_reply net) _ a ∙ ap verdict_of (or_else-left (words_fault (petri_net net) sheet) _ (answer-none (schedule_fault (petri_net net) sheet) b))

  pub form-of-schedule : {out out' : List ℕ} {r : FormAnswer} → FormOf net sheet out r out' → FormWritten net sheet out r out'
  unfolding words_verdict
  form-of-schedule d = record { reply = d.reply ∙ rw (words-accepted, h) refl; written = d.written ∙ rw (words-accepted, h) refl }
