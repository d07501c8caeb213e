-- The replay as an instance of what holds of every call: the checks of its words, and the paths of its code.
use Rattle.std.specs.Prelude.{Result, Err, Ok}
use Rattle.refusal.specs.Refusal.{Verdict}
use Rattle.scan.proofs.Basics.{ℕ, ◌≡◌, refl, sym, ap, ◌∙◌, none, List, [], ◌∷◌, ◌++◌, length}
use Rattle.scan.specs.Scan.{tabulate}
use Rattle.scan.proofs.First.{or_else-next}
use Rattle.scan.proofs.Tabulate.{tabulate-length}
use Rattle.refusal.specs.Verdict.{verdict_of}
use Rattle.refusal.specs.declared.Refusal.{Refusal}
use Rattle.refusal.proofs.Verdicts.{answer-left, then_next, then-refused}
use Rattle.refusal.proofs.Judges.{judges-found, judges-then}
use Rattle.net.specs.Net.{place_count}
use Rattle.net.specs.Checks.{net_checks}
use Rattle.sequential.specs.Petri.{petri_net}
use Rattle.sequential.specs.Checks.{sheet_checks}
use Rattle.sequential.specs.Check.{schedule_reply}
use Rattle.sequential.proofs.Accepted.{schedule-judged}
use Rattle.lending.specs.Call.{room_fault}
use Rattle.lending.proofs.Laws.{refused-first, refused-second, answered-two}
use Rattle.lending.proofs.Judged.{Lawful}
use Rattle.refusal.specs.Index.{plain_index, Index}
use Rattle.schedule.specs.Firing.{last_entry}
use Rattle.replay.specs.Log.{firings, moved}
use Rattle.replay.specs.Checks.{replay_checks}
use Rattle.replay.specs.Tests.{log_fault}
use Rattle.replay.specs.Calls.{replay_verdict, totals_of, taken_row, put_row, replay_core, ReplayWritten, LogFollowed, LogChecked}
use Rattle.replay.specs.Plain.{plain_replay}
use Rattle.replay.specs.Tally.{Settled}
use Rattle.replay.specs.declared.Totals.{Totals}
use Rattle.replay.proofs.Logs.{replay-tells, replay-fault}

-- ---- what is found before the buffers are measured

module _ (net sheet log : List ℕ) {v : Verdict} where
  pub sheet-refused : {r : Refusal} → v ≡ schedule_reply net sheet → v ≡ Err r → LogChecked net sheet log (Err r)
  unfolding replay_verdict
  sheet-refused e h = record { reply = sym h ∙ e ∙ sym (then-refused (schedule_reply net sheet) _ _ (sym e ∙ h)); entry = λ x a. cc a }

  module _ (a : schedule_reply net sheet ≡ Ok tt) where
    pub log-refused : {r : Refusal} → v ≡ verdict_of (log_fault log) → v ≡ Err r → LogChecked net sheet log (Err r)
    unfolding replay_verdict
    log-refused e h = record {
      reply = sym h ∙ answer-left (log_fault log) _ v _ e h ∙ ap verdict_of (sym (replay-fault (petri_net net) sheet log)) ∙ sym (then_next _ _ a);
      entry = λ x b. cc b;
    }

-- the log is as long as it says, and its firings are followed
pub firings-judged : (net sheet log : List ℕ) {answer : Result Index Refusal} → schedule_reply net sheet ≡ Ok tt → log_fault log ≡ none → LogFollowed (petri_net net) sheet log answer
    → LogChecked net sheet log answer
unfolding replay_verdict
firings-judged net sheet log a n f = record {
  reply = f.reply ∙ ap verdict_of (sym (replay-fault (petri_net net) sheet log ∙ or_else-next _ _ n)) ∙ sym (then_next _ _ a);
  entry = f.entry;
}

-- ---- the buffers: a row has room where P numbers have

module _ (net sheet log taken put : List ℕ) (ok : replay_verdict net sheet log ≡ Ok tt) {n : ℕ} (e : n ≡ place_count net) where
  room : (moves : ℕ → ℕ → ℕ) (out : List ℕ) {v w : Verdict} → v ≡ room_fault (length out) n → v ≡ w → room_fault (length out) (length (tabulate (moved moves log) (place_count net))) ≡ w
  room moves out h k = rw (tabulate-length (moved moves log) (place_count net), ← e) (sym h ∙ k)

  pub taken-short : {v : Verdict} {r : Refusal} → v ≡ room_fault (length taken) n → v ≡ Err r → ReplayWritten net sheet log taken put (Err r) taken put
  unfolding taken_row
  taken-short h k = refused-first refl ok (room (petri_net net).taken taken h k) refl

  pub put-short : {v : Verdict} {r : Refusal} → v ≡ room_fault (length put) n → v ≡ Err r → ReplayWritten net sheet log taken put (Err r) taken put
  unfolding put_row
  put-short h k = refused-second refl ok (room (petri_net net).put put h k) refl

  pub all-written : {v w : Verdict} {r : Totals} {x : Index} {taken' put' : List ℕ} → x ≡ last_entry (petri_net net) sheet (firings log)
      → v ≡ room_fault (length taken) n → v ≡ Ok tt → w ≡ room_fault (length put) n → w ≡ Ok tt
      → Settled net log taken put r taken' put' → ReplayWritten net sheet log taken put (Ok (record { totals = r; entry = x })) taken' put'
  unfolding taken_row put_row
  all-written q h k i j s =
      answered-two refl ok (room (petri_net net).taken taken h k) (room (petri_net net).put put i j) (rw (s.all, q))
      (s.taken_written ∙ rw (tabulate-length (moved (petri_net net).taken log) (place_count net))) (s.put_written ∙ rw (tabulate-length (moved (petri_net net).put log) (place_count net)))

-- ---- what the call shows of its core

pub replay-law : (net sheet log : List ℕ) → Lawful (replay_core net sheet log) plain_replay
    ((totals_of (petri_net net) log).taken ∷ (totals_of (petri_net net) log).put ∷ plain_index (last_entry (petri_net net) sheet (firings log)) ∷ [])
    ((net_checks net ++ sheet_checks (petri_net net) sheet) ++ replay_checks (petri_net net) sheet log)
unfolding replay_verdict
replay-law net sheet log = record {
  judged = judges-then _ _ (net_checks net ++ sheet_checks (petri_net net) sheet) _ (schedule-judged net sheet) (λ p. judges-found _ _ (replay-tells (petri_net net) sheet log));
  proper = refl;
  plain-accepted = refl;
  own-length = refl;
  plain-refused = λ r. refl;
}
