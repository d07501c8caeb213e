-- What is promised of a replay, proved.
use Rattle.refusal.specs.declared.Reason.TheVariants.{SmallOutput}
use Rattle.scan.proofs.Basics.{ℕ, ◌≤◌, arith, ◌≡◌, refl, ◌∙◌, inl, inr, ⊎_elim, ◌↔◌, List, [], ◌∷◌, ◌++◌, length}
use mathlib.Core.Logic.Iff
use Rattle.scan.proofs.Tabulate.{tabulate-length}
use Rattle.refusal.specs.Limits.{scratch_limit}
use Rattle.refusal.specs.Checks.{Check, once}
use Rattle.refusal.proofs.Judges.{pass-append}
use Rattle.net.specs.Checks.{net_checks}
use Rattle.sequential.specs.Petri.{petri_net}
use Rattle.sequential.specs.Checks.{sheet_checks}
use Rattle.sequential.proofs.Accepted.{accepts, closed, schedule-judged}
use Rattle.sequential.proofs.Runs.{from-root}
use Rattle.lending.specs.Demands.{number, own}
use Rattle.lending.proofs.Done.{done-zero, own-answered}
use Rattle.lending.proofs.Demands.{every-call-two}
use Rattle.schedule.specs.Walker.{run_checks}
use Rattle.replay.specs.Log.{firings}
use Rattle.replay.specs.Checks.{replay_checks}
use Rattle.replay.specs.Calls.{totals_of, taken_row, put_row, ReplayDone}
use Rattle.replay.specs.Plain.{plain_replay, ReplayAnswer}
use Rattle.replay.proofs.Replays.{passed-sheet, passed-node, passed-ends, balance}
use Rattle.replay.proofs.Done.{replay-law}
use Rattle.demands.specs.Terms.{said}
use Rattle.demands.specs.Replay.{Replayable, Replayed, EveryReplay, ReplayDemand}
use Rattle.demands.proofs.Calls.{unread-two}
use Rattle.demands.proofs.Checked.{reply-passes}
use Rattle.demands.proofs.Demand1.{demand1}
use Rattle.demands.proofs.BesideRun.{named, between, run-stops}

-- ---- as every call

-- as many numbers are written to each buffer as there are places, so both fit where the places do
pub rows_fit_lem : (net log taken put : List ℕ) → (((petri_net net).places ≤ length taken) × ((petri_net net).places ≤ length put))
    ↔ ((length (taken_row (petri_net net) log) ≤ length taken) × (length (put_row (petri_net net) log) ≤ length put))
unfolding taken_row put_row
rows_fit_lem net log taken put = simp tabulate-length Iff.rfl

every : (net sheet log taken put : List ℕ) → EveryReplay net sheet log taken put
every net sheet log taken put = every-call-two (replay-law net sheet log) refl (λ p. rows_fit_lem net log taken put)

-- ---- what is accepted

module _ (net sheet log taken put s taken' put' s' : List ℕ) (a : ReplayAnswer) (d : ReplayDone net sheet log taken put s a taken' put' s') where
  abbrev base : List Check
  base = net_checks net ++ sheet_checks (petri_net net) sheet

  exactly : (number (plain_replay a) ≡ 0) ↔ Replayable net sheet log taken put s
  exactly =
      let (f, g) = ((every net sheet log taken put).by_numbers s s' a (taken', put') d).zero in
      let (h, k) = pass-append base (replay_checks (petri_net net) sheet log ++ (once (((petri_net net).places ≤ length taken) × ((petri_net net).places ≤ length put)) SmallOutput ∷ [])) in (
        λ z. let (l, p) = f z in
            let (b, (x, (y, (w, (q, ((t, u), e)))))) = h p in
            let (n, v, i) = (reply-passes net sheet).0 ((schedule-judged net sheet).accepts.1 b) in
            record {
              scratch_holds = l;
              net_passes = n;
              words_pass = v;
              schedule = i;
              log_passes = (x, (y, (w, tt)));
              offered = λ j m. (q j m).0;
              reached = λ j m. (q j m).1.0;
              taken_holds = t;
              put_holds = u;
            },
        λ r. let (x, (y, (w, u))) = r.log_passes in
            let b = (schedule-judged net sheet).accepts.0 ((reply-passes net sheet).1 (r.net_passes, r.words_pass, r.schedule)) in
            g (r.scratch_holds, k (b, (x, (y, (w, (λ j m. (r.offered j m, (r.reached j m, tt)), ((r.taken_holds, r.put_holds), tt))))))),
      )

  totals : number (plain_replay a) ≡ 0 → Replayed (petri_net net) (said net sheet) log taken put (own (plain_replay a) 0) (own (plain_replay a) 1) taken' put'
  unfolding totals_of taken_row put_row
  totals z =
      let N = petri_net net in
      let law = replay-law net sheet log in
      let f = done-zero law d z in
      let at = own-answered law d z in
      let ok = f.passed in
      let r = passed-sheet net sheet log ok in
      let (n, e) = passed-ends net sheet log ok in
      let (g, h) = from-root N (said net sheet) (closed net sheet r) refl (accepts net sheet r).schedule (firings log) n e in
      rw (at 0, at 1) (record {
        reached = passed-node net sheet log ok;
        end = n;
        ends = e;
        enabled = g;
        taken_written = f.written 0 ∙ rw (tabulate-length _ N.places);
        put_written = f.written 1 ∙ rw (tabulate-length _ N.places);
        taken_answered = refl;
        put_answered = refl;
        balance = λ p l. balance net sheet log ok p l n e;
        left = λ p l. let b = balance net sheet log ok p l n e in omega arith;
      })

-- ---- all of it

pub replay-demand : ReplayDemand
replay-demand = record {
  every = every;
  unread = λ net sheet log. unread-two (replay-law net sheet log) _ _ refl;
  accepts = exactly;
  totals = totals;
  runs = λ net sheet log taken put s taken' put' s' out t out' t' a b i c d l m p h.
      let N = petri_net net in
      let base = net_checks net ++ sheet_checks N sheet in
      let (f, g) = named ((every net sheet log taken put).by_numbers s s' a (taken', put') c) in
      let (j, k) = named ((demand1.run net sheet (firings log) out).by_numbers t t' b out' d) in
      let (v, w) = between base (replay_checks N sheet log) (scratch_limit ≤ length s) ((N.places ≤ length taken) × (N.places ≤ length put)) i l in
      let (x, y) = between base (run_checks N sheet (firings log)) (scratch_limit ≤ length t) (N.places ≤ length out) i m in
      let (q, r) = run-stops N sheet log i p h in
      (λ e. k (y (⊎_elim inl (λ (u, z). inr (u, q z)) (v (f e)))), λ e. g (w (⊎_elim inl (λ (u, z). inr (u, r z)) (x (j e)))));
}
