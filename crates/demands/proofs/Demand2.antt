-- Demand 2, proved.
use Rattle.scan.proofs.Basics.{ℕ, zero, suc, ◌+◌, ◌≤◌, ◌<◌, add-one, arith, ◌≡◌, refl, sym, ap, subst, ◌∙◌, ◌↔◌, Bool, true, List, [], ◌++◌, length, get_or, drop}
use lib.ListN.{get_or-append}
use Rattle.scan.specs.Scan.{bit, count}
use Rattle.scan.proofs.Tests.{by_test}
use Rattle.scan.proofs.Tabulate.{tabulate-length, tabulate-at}
use Rattle.automaton.specs.Reach.{Reachable}
use Rattle.refusal.specs.Refusal.{plain_verdict, Verdict}
use Rattle.net.specs.Checks.{IsNet}
use Rattle.net.proofs.Checks.{net-judged}
use Rattle.net.proofs.Laws.{sizes, some-source, start_no_place}
use Rattle.sequential.specs.Petri.{petri_net, fired_count}
use Rattle.sequential.specs.Published.{SequentialSchedule}
use Rattle.sequential.specs.Checks.{WordsPass}
use Rattle.sequential.specs.Check.{await_count, schedule_reply}
use Rattle.sequential.specs.Bounds.{bounds}
use Rattle.sequential.proofs.Words.{words-hold}
use Rattle.sequential.proofs.Entries.{graph-closed}
use Rattle.sequential.proofs.Clauses.{offers↔, await↔}
use Rattle.sequential.proofs.Accepted.{accepts, some_transition, closed, schedule-judged}
use Rattle.sequential.proofs.Runs.{from-root, runs, goes_on}
use Rattle.sequential.proofs.Published.{sequential, published-schedule}
use Rattle.sequential.proofs.Numbers.{arcs-counted}
use Rattle.sequential.proofs.Bounds.{bounds-length, bounds-at, least-bound}
use Rattle.judge.specs.Answer.{counts_of, plain_check, CheckAnswer}
use Rattle.lending.specs.Call.{written_over}
use Rattle.lending.specs.Demands.{number, own}
use Rattle.lending.proofs.Judged.{words-judged-none}
use Rattle.lending.proofs.Done.{by-checks, done-zero, own-answered, written-past, written-length}
use Rattle.refusal.proofs.Verdicts.{answer-none, then-accepted}
use Rattle.schedule.specs.Walker.{Stands}
use Rattle.schedule.specs.Firing.{fresh_walker, end_counts}
use Rattle.refusal.specs.Limits.{scratch_limit}
use Rattle.schedule.specs.Calls.{check_core, CheckDone, BoundsDone, FreshDone, FireDone, RunDone}
use Rattle.schedule.specs.Plain.{plain_fire, plain_run, FireAnswer, RunAnswer}
use Rattle.schedule.specs.declared.Walker.{Walker}
use Rattle.schedule.proofs.Walkers.{walker-out, step-tells, handed-back}
use Rattle.schedule.proofs.Following.{run-leads, end-length}
use Rattle.schedule.proofs.Done.{check-law, bounds-law, fire-law, run-law}
use Rattle.demands.specs.Terms.{said}
use Rattle.demands.specs.Demand2.{HowMany, none_yet, one_more, no_more, Counted, LeastBounds, FiresRight, RanAll, Demand2}
use Rattle.demands.proofs.Checked.{reply-passes, check-zero, accepted-reply}
use Rattle.demands.proofs.Demand1.{net-by}

-- ---- the check

module _ (net sheet s s' : List ℕ) (a : CheckAnswer) (d : CheckDone net sheet s a s') where
  check-published : scratch_limit ≤ length s → IsNet net → WordsPass (petri_net net) sheet
      → (number (plain_check a) ≡ 0) ↔ (SequentialSchedule (petri_net net) (said net sheet) × ((n : ℕ) → n < (said net sheet).nodes → Reachable (said net sheet) n))
  check-published l p w = (
    λ z. let (m, h) = (check-zero net sheet d).0 z in
        let i = (accepts net sheet h).schedule in
        (sequential (petri_net net) (said net sheet) (closed net sheet h) refl i, i.reached),
    λ (q, r).
        let n = (net-judged net).accepts.1 p in
        let c = graph-closed (petri_net net) sheet (sizes net n).some_transition (words-hold (petri_net net) sheet w).arcs in
        (check-zero net sheet d).1 (l, (reply-passes net sheet).1 (p, w, published-schedule (petri_net net) (said net sheet) c refl (let (t, k, s) = some-source net n in (t, k, (refl, s))) q r)),
  )

-- ---- what is counted

how-many : (f : ℕ → Bool) (Such : ℕ → Type 0) (n : ℕ) → ((i : ℕ) → i < n → (f i ≡ true) ↔ Such i) → HowMany Such n (count f n)
unfolding count bit
how-many f Such zero h = none_yet
how-many f Such (suc n) h =
    let before = how-many f Such n (λ i l. h i (omega arith)) in
    by_test (f n) (λ e. rw (e, add-one) (one_more n _ before ((h n (omega arith)).0 e)))
    (λ e. rw e (let z : count f n + 0 ≡ count f n = omega arith in rw z (no_more n _ before (λ s. let q = sym e ∙ (h n (omega arith)).1 s in let y : ◌≡◌ {A = ℕ} 0 1 = cc in omega arith))))

counts : (net sheet s s' : List ℕ) (a : CheckAnswer) → CheckDone net sheet s a s' → number (plain_check a) ≡ 0
    → Counted (petri_net net) (said net sheet) (own (plain_check a) 0) (own (plain_check a) 1) (own (plain_check a) 2)
unfolding counts_of await_count
counts net sheet s s' a d z =
    let at = own-answered (check-law net sheet) d z in
    let h = ((check-zero net sheet d).0 z).1 in
    rw (at 0, at 1, at 2) (record {
      all_nodes = refl;
      all_arcs = rw (arcs-counted (petri_net net) sheet (some_transition net sheet h) (accepts net sheet h).words.arcs)
          (how-many _ _ _ (λ i l. offers↔ (petri_net net) (said net sheet) _ _));
      all_awaits = how-many _ _ _ (λ n l. await↔ (petri_net net) (said net sheet) n);
    })

-- ---- what is fired

fresh : (net : List ℕ) (v : Verdict) (w : Walker) → FreshDone net v w → number (plain_verdict v) ≡ 0 → Stands (petri_net net) w 0 (petri_net net).start
fresh net v w d z =
    let a = (net-judged net).accepts.1 ((net-by net v d.reply).zero.0 z) in
    let few = (sizes net a).few_places in
    subst (λ (x : Walker). Stands (petri_net net) x 0 (petri_net net).start) (sym (d.made ∙ ap (λ (x : Verdict). fresh_walker x net) (d.reply ∙ a))) (record {
      node = refl;
      counts = tabulate-length (petri_net net).start 32;
      holds = λ p l. tabulate-at (petri_net net).start 0 32 p (omega arith);
      zeros = λ p l m. tabulate-at (petri_net net).start 0 32 p m ∙ start_no_place net p l;
    })

fires : (net sheet s s' : List ℕ) (w next : Walker) (t : ℕ) (r : FireAnswer) → FireDone net sheet s w t r next s' → number (plain_fire r) ≡ 0
    → FiresRight (petri_net net) sheet (said net sheet) w t next
unfolding fired_count
fires net sheet s s' w next t r d z =
    let f = done-zero (fire-law net sheet w t) d z in
    let (a, b) = then-accepted (schedule_reply net sheet) _ f.passed in
    let (n, (c, ((m, o), u))) = (step-tells (petri_net net) sheet w t).passes.0 (answer-none _ b) in
    let h = handed-back net sheet a w t m (record { node = n; holds = λ p l. (c p l).0 }) o in
    subst (FiresRight (petri_net net) sheet (said net sheet) w t) (sym (ap (λ (x : FireAnswer × Walker). x.1) f.reply)) (
    let p = walker-out (petri_net net) sheet _ h.passes in
    record {
      arc = h.target;
      enabled = h.enabled;
      stands = h.stands;
      passes = λ u o. (p.node, (λ q l. (p.holds q l, tt), (o, tt)));
    })

runs-all : (net sheet firings out s out' s' : List ℕ) (a : RunAnswer) → RunDone net sheet firings out s a out' s' → number (plain_run a) ≡ 0
    → RanAll (petri_net net) (said net sheet) firings out (own (plain_run a) 0) (own (plain_run a) 1) out'
unfolding end_counts
runs-all net sheet firings out s out' s' a d z =
    let N = petri_net net in
    let law = run-law net sheet firings in
    let f = done-zero law d z in
    let at = own-answered law d z in
    let (h, b) = then-accepted (schedule_reply net sheet) _ f.passed in
    let e = run-leads N sheet firings (answer-none _ b) in
    let (g, k) = from-root N (said net sheet) (closed net sheet h) refl (accepts net sheet h).schedule firings _ e in
    rw (at 0, at 1) (record {
      all = refl;
      ends = e;
      enabled = g;
      holds = k;
      written = f.written 0 ∙ ap (λ (n : ℕ). end_counts net firings ++ drop n out) (end-length net firings) ∙ ap (λ (x : List ℕ). x ++ drop N.places out) k;
    })

-- ---- place bounds

bounds-written : (net sheet out s out' s' : List ℕ) (v : Verdict) → BoundsDone net sheet out s v out' s' → number (plain_verdict v) ≡ 0
    → LeastBounds (petri_net net) (said net sheet) out out'
bounds-written net sheet out s out' s' v d z =
    let N = petri_net net in
    let f = done-zero (bounds-law net sheet) d z in
    let h = f.passed in
    let n = bounds-length N sheet in
    let e : out' ≡ written_over (bounds N sheet) out = f.written 0 in
    let at : (i : ℕ) → get_or out' i 0 ≡ get_or (written_over (bounds N sheet) out) i 0 = λ i. ap (λ (x : List ℕ). get_or x i 0) e in
    record {
      least = λ p l. rw (at p ∙ get_or-append (bounds N sheet) _ 0 p (rw n l) ∙ bounds-at N sheet p l)
          (least-bound N sheet (some_transition net sheet h) (accepts net sheet h).words.arcs (accepts net sheet h).schedule p l);
      past = λ i l. at i ∙ written-past (bounds N sheet) out i (rw n l);
      length_kept = ap length e ∙ written-length (bounds N sheet) out (f.room 0);
    }

-- ---- demand 2

pub demand2 : Demand2
demand2 = record {
  accepts = λ net sheet s s' a d.
      let (f, g) = check-zero net sheet d in
      let (h, k) = reply-passes net sheet in
      (λ z. let (l, e) = f z in let (n, w, i) = h e in (l, n, w, i), λ (l, n, w, i). g (l, k (n, w, i)));
  published = check-published;
  names = λ net sheet s s' a d. by-checks (check-law net sheet) d (words-judged-none (check_core net sheet) [] (schedule-judged net sheet) refl);
  counts = counts;
  fresh = fresh;
  fires = fires;
  runs = runs-all;
  enabled = λ net sheet σ h a.
      let r = accepted-reply net sheet h in (runs (petri_net net) (said net sheet) (closed net sheet r) refl (accepts net sheet r).schedule σ a).enabled;
  goes_on = λ net sheet σ h a.
      let r = accepted-reply net sheet h in
      let g = goes_on (petri_net net) (said net sheet) (closed net sheet r) refl (accepts net sheet r).schedule σ a in
      (g.member, g.goes);
  returns = λ net sheet h n l. (accepts net sheet (accepted-reply net sheet h)).schedule.returns n l;
  bounds = bounds-written;
}
