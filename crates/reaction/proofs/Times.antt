-- What the report tells, proved of all that passes.
use Rattle.std.specs.Prelude.{Ok}
use Rattle.scan.proofs.Basics.{ℕ, ◌≤◌, ◌<◌, arith, ◌≡◌, ◌∙◌, true, some, List, ◌∷◌, length}
use native.Mathlib.Nat.{mul-le-mul}
use Rattle.scan.specs.Scan.{count, found}
use Rattle.scan.proofs.Tests.{iff→eq}
use Rattle.scan.proofs.First.{found_some}
use Rattle.scan.proofs.Count.{count-le}
use Rattle.net.proofs.Laws.{sizes}
use Rattle.automaton.specs.Automaton.{Closed}
use Rattle.automaton.specs.Reach.{Reachable, Leads}
use Rattle.automaton.proofs.Automaton.{follow-arc, follow-on}
use Rattle.sequential.specs.Petri.{petri_net}
use Rattle.sequential.specs.Tests.{is_source}
use Rattle.sequential.specs.Words.{node_count}
use Rattle.sequential.specs.Check.{await_count, schedule_reply}
use Rattle.sequential.proofs.Accepted.{accepts, closed}
use Rattle.sequential.proofs.Choices.{source↔}
use Rattle.sequential.proofs.Clauses.{await↔}
use Rattle.sequential.proofs.Faults.{leads-await}
use Rattle.reaction.specs.Busy.{BusyRun, BusyLoop, Reaction}
use Rattle.reaction.specs.Duration.{lasting}
use Rattle.reaction.specs.Extreme.{AtMost, AtLeast}
use Rattle.reaction.specs.ToGo.{best, worst, reaction_time}
use Rattle.reaction.specs.Words.{early, late}
use Rattle.reaction.specs.Call.{sheet_graph, sheet_await, report_words}
use Rattle.reaction.specs.Known.{Passed}
use Rattle.reaction.specs.Times.{NodeTimes, ReactionTimes, ReportLong, FewFirings, AttainedFromRoot, RunsAttain}
use Rattle.reaction.proofs.Busy.{busy-leads, run_in, run_out}
use Rattle.reaction.proofs.Extreme.{picks-min, picks-max}
use Rattle.reaction.proofs.Short.{run-uses, run_short, pumped}
use Rattle.reaction.proofs.Values.{solves, extreme-of-runs, extreme-of-reactions, value-fits, lasting-mono}
use Rattle.reaction.proofs.Report.{report-length, report-at}

-- ---- an accepted sheet

module _ (net sheet : List ℕ) (h : schedule_reply net sheet ≡ Ok tt) where
  pub home : (n : ℕ) → n < (sheet_graph net sheet).nodes → Leads (sheet_graph net sheet) (sheet_await net sheet) n
  home n l = (leads-await (petri_net net) (sheet_graph net sheet) n).1 ((accepts net sheet h).schedule.returns n l)

  -- an await node has an arc by t exactly where t is a source
  pub offered : (n t : ℕ) → n < (sheet_graph net sheet).nodes → sheet_await net sheet n ≡ true → t < (sheet_graph net sheet).transitions
      → found ((sheet_graph net sheet).arc n t) ≡ is_source (petri_net net) t
  unfolding found
  offered n t l w k =
      let (f, g) = (await↔ (petri_net net) (sheet_graph net sheet) n).0 w t k in
      iff→eq _ _ (λ e. (source↔ (petri_net net) t).1 (f (found_some _ e)))
      (λ e. let (m, q) = g ((source↔ (petri_net net) t).0 e) in rw q)

-- ---- the times

module _ (net sheet words : List ℕ) (h : Passed net sheet words) where
  pub c : Closed (sheet_graph net sheet)
  c = closed net sheet h.accepted

  pub way : (n : ℕ) → n < (sheet_graph net sheet).nodes → Leads (sheet_graph net sheet) (sheet_await net sheet) n
  way = home net sheet h.accepted

  pub few : node_count sheet ≤ 128
  few = (accepts net sheet h.accepted).words.arcs.shape.few_nodes

  pub late_fits : (t : ℕ) → t < (sheet_graph net sheet).transitions → late words t ≤ 1000000
  late_fits t l = (h.durations_pass.each t l).late_fits

  in_order : (t : ℕ) → t < (sheet_graph net sheet).transitions → early words t ≤ late words t
  in_order t l = (h.durations_pass.each t l).ordered

  pub node-times : (n : ℕ) → n < node_count sheet → NodeTimes net sheet words n
  unfolding best worst
  node-times n l =
      let low = extreme-of-runs (sheet_graph net sheet) (sheet_await net sheet) c h.ending way _ (early words) AtMost picks-min n l in
      let top = extreme-of-runs (sheet_graph net sheet) (sheet_await net sheet) c h.ending way _ (late words) AtLeast picks-max n l in
      let size = value-fits (sheet_graph net sheet) (sheet_await net sheet) c h.ending way _ (late words) AtLeast picks-max late_fits n l in
      let (σ, next, r, w, e) = top.attained in
      let (τ, goal, s, z, q) = low.attained in
      let longer = lasting-mono (sheet_graph net sheet) (sheet_await net sheet) (early words) (late words) c in_order σ n next (run_out (sheet_graph net sheet) (sheet_await net sheet) σ n next r) in
      record {
        best_solves = solves (sheet_graph net sheet) (sheet_await net sheet) c h.ending way _ (early words) AtMost picks-min n l;
        worst_solves = solves (sheet_graph net sheet) (sheet_await net sheet) c h.ending way _ (late words) AtLeast picks-max n l;
        best_of_runs = low;
        worst_of_runs = top;
        ordered = omega (arith, low.bounds σ next r w);
        fits = omega (arith, few);
      }

  -- a source has an arc at an await node
  source-arc : (a t : ℕ) → sheet_await net sheet a ≡ true → t < (petri_net net).transitions → is_source (petri_net net) t ≡ true
      → (m : ℕ) × ((sheet_graph net sheet).arc a t ≡ some m)
  source-arc a t w k s = ((await↔ (petri_net net) (sheet_graph net sheet) a).0 w t k).1 ((source↔ (petri_net net) t).0 s)

  pub reaction-times : (a t : ℕ) → a < node_count sheet → sheet_await net sheet a ≡ true → t < (petri_net net).transitions → is_source (petri_net net) t ≡ true
      → ReactionTimes net sheet words (report_words net sheet words) a t
  unfolding report_words
  reaction-times a t l w k s =
      let (m, e) = source-arc a t w k s in
      let (b, z) = report-at (sheet_graph net sheet) (sheet_await net sheet) (is_source (petri_net net)) (early words) (late words)
      (offered net sheet h.accepted) a t m l w k e in
      let n = node-times m (c.lands a t m l e) in
      record {
        best_of_reactions = unfold best in (extreme-of-reactions (sheet_graph net sheet) (sheet_await net sheet) c h.ending way _ (early words) AtMost picks-min a t m l w e);
        worst_of_reactions = unfold worst in (extreme-of-reactions (sheet_graph net sheet) (sheet_await net sheet) c h.ending way _ (late words) AtLeast picks-max a t m l w e);
        ordered = unfold reaction_time in (rw e (omega (arith, in_order t k, n.ordered)));
        fits = unfold reaction_time in (rw e (omega (arith, late_fits t k, n.fits)));
        best_written = b;
        worst_written = z;
      }

  pub report-long : ReportLong net sheet (report_words net sheet words)
  unfolding report_words await_count
  report-long =
      let q = report-length (sheet_graph net sheet) (sheet_await net sheet) (is_source (petri_net net)) (early words) (late words) (offered net sheet h.accepted) in
      let a = count-le (sheet_await net sheet) (node_count sheet) in
      let b = count-le (is_source (petri_net net)) (petri_net net).transitions in
      let t = (sizes net (accepts net sheet h.accepted).net_accepted).few_transitions in
      let wide : count (sheet_await net sheet) (node_count sheet) ≤ 128 = omega (arith, few) in
      let deep : count (is_source (petri_net net)) (petri_net net).transitions ≤ 32 = omega arith in
      record { pairs = q; most = omega (arith, mul-le-mul wide deep) }

  pub few-firings : (a t : ℕ) (σ : List ℕ) (next : ℕ) → a < node_count sheet → Reaction (sheet_graph net sheet) (sheet_await net sheet) a t σ next → FewFirings net sheet σ
  few-firings a t σ next l r =
      let k = c.lands a t r.reached l r.arc in
      let e = run_out (sheet_graph net sheet) (sheet_await net sheet) σ r.reached next r.run in
      record {
        busy_nodes = run-uses (sheet_graph net sheet) (sheet_await net sheet) c h.ending σ r.reached next k e;
        short = run_short (sheet_graph net sheet) (sheet_await net sheet) c h.ending σ r.reached k (record { next = next; leads = e; ends = r.ends });
      }

-- ---- how many firings

-- where 33 is given no number of firings is enough
pub endless-runs : (net sheet : List ℕ) → schedule_reply net sheet ≡ Ok tt → (n : ℕ) → n < node_count sheet → BusyLoop (sheet_graph net sheet) (sheet_await net sheet) n
    → (k : ℕ) → (σ : List ℕ) × (next : ℕ) × BusyRun (sheet_graph net sheet) (sheet_await net sheet) n σ next × (sheet_await net sheet next ≡ true) × (k ≤ length σ)
unfolding Leads
endless-runs net sheet h n l b k =
    let (ρ, m, e, w) = busy-leads (sheet_graph net sheet) (sheet_await net sheet) n (home net sheet h n l) in
    let (σ, r, j) = pumped (sheet_graph net sheet) (sheet_await net sheet) (closed net sheet h) n b ρ (record { next = m; leads = e; ends = w }) k in
    (σ, r.next, run_in (sheet_graph net sheet) (sheet_await net sheet) n r.next σ r.leads, r.ends, j)

-- ---- runs from the root

from-root : (net sheet : List ℕ) (d : ℕ → ℕ) (a t x : ℕ) → schedule_reply net sheet ≡ Ok tt → a < node_count sheet
    → (σ : List ℕ) × (next : ℕ) × Reaction (sheet_graph net sheet) (sheet_await net sheet) a t σ next × (lasting d (t ∷ σ) ≡ x) → AttainedFromRoot net sheet d a t x
unfolding Reachable
from-root net sheet d a t x h l (σ, next, r, e) =
    let (ρ, q) = (accepts net sheet h).schedule.reached a l in
    record {
      before = ρ;
      after = σ;
      next = next;
      comes = q;
      reaction = r;
      lasts = e;
      run = follow-on (sheet_graph net sheet) ρ (t ∷ σ) 0 a q ∙ follow-arc (sheet_graph net sheet) a t r.reached σ r.arc ∙ r.run.leads;
    }

pub runs-attain : (net sheet words : List ℕ) → Passed net sheet words → (a t : ℕ) → a < node_count sheet → sheet_await net sheet a ≡ true → t < (petri_net net).transitions
    → is_source (petri_net net) t ≡ true → RunsAttain net sheet words a t
runs-attain net sheet words h a t l w k s =
    let times = reaction-times net sheet words h a t l w k s in
    record {
      best_run = from-root net sheet (early words) a t _ h.accepted l times.best_of_reactions.attained;
      worst_run = from-root net sheet (late words) a t _ h.accepted l times.worst_of_reactions.attained;
    }
