-- What is promised of capacities, proved.
use Rattle.refusal.specs.declared.Reason.TheVariants.{SmallOutput}
use Rattle.scan.proofs.Basics.{ℕ, ◌≤◌, arith, ◌≡◌, refl, sym, ap, ◌∙◌, true, List, [], ◌∷◌, ◌++◌, length, take, drop}
use Rattle.scan.proofs.First.{none-some}
use Rattle.automaton.specs.Automaton.{allows}
use Rattle.refusal.specs.Limits.{scratch_limit}
use Rattle.refusal.specs.Checks.{Check, once}
use Rattle.refusal.proofs.Judges.{Spared, spared-never, spared-append, without, without-spared}
use Rattle.net.specs.Net.{Within, start, capacity}
use Rattle.net.specs.Checks.{net_checks}
use Rattle.net.specs.Demands.{NoCapacityKeys}
use Rattle.net.proofs.Checks.{net-judged}
use Rattle.net.proofs.Laws.{no-capacity}
use Rattle.sequential.specs.Petri.{PetriNet, petri_net, initial}
use Rattle.sequential.specs.Runs.{StaysWithin}
use Rattle.sequential.specs.Checks.{word_checks, graph_checks, sheet_checks, ArcHasRoom}
use Rattle.sequential.proofs.Accepted.{accepts, closed}
use Rattle.sequential.proofs.Capacities.{fires-within, stays-last, enabled-unlimited, initial-within, node-within, source-enabled}
use Rattle.lending.specs.Demands.{number, call_checks, ByChecks}
use Rattle.lending.proofs.Done.{done-zero}
use Rattle.schedule.specs.Walker.{walker_checks, run_checks}
use Rattle.schedule.proofs.Done.{bounds-law}
use Rattle.replay.specs.Checks.{replay_checks}
use Rattle.mended.specs.Checks.{mend_checks}
use Rattle.demands.specs.Terms.{said, all_checks, Accepted}
use Rattle.demands.specs.Capacities.{KeptWithin, Enabling, AsWithout, Spares, NeverBy, CapacityDemand}
use Rattle.demands.proofs.Checked.{accepted-reply, reply-accepted}
use Rattle.demands.proofs.Demand1.{demand1}
use Rattle.demands.proofs.Demand2.{demand2}
use Rattle.demands.proofs.Replay.{replay-demand}
use Rattle.demands.proofs.Mend.{mend-demand}

-- ---- within capacities

pub kept : KeptWithin
kept = record {
  firings = λ net σ h f. fires-within (petri_net net) (initial (petri_net net)) σ (initial-within net ((net-judged net).accepts.1 h)) f;
  lists = within;
  nodes = λ net sheet h.
      let r = accepted-reply net sheet h in
      node-within (petri_net net) (said net sheet) (closed net sheet r) refl (accepts net sheet r).schedule (initial-within net (accepts net sheet r).net_accepted);
  bounds = λ net sheet out s out' s' v d z p l.
      let (σ, a, e) = ((demand2.bounds net sheet out s out' s' v d z).least p l).attained in
      rw (← e) (stays-last (petri_net net) (initial (petri_net net)) σ (within net sheet σ (reply-accepted net sheet (done-zero (bounds-law net sheet) d z).passed) a) p l);
}
  where
    within : (net sheet σ : List ℕ) → Accepted net sheet → allows (said net sheet) 0 σ ≡ true → StaysWithin (petri_net net) (initial (petri_net net)) σ
    within net sheet σ h a =
        fires-within (petri_net net) (initial (petri_net net)) σ (initial-within net (accepts net sheet (accepted-reply net sheet h)).net_accepted)
        (demand2.enabled net sheet σ h a)

-- ---- enabling

pub enabling : Enabling
enabling = record {
  taking = λ N m t e. e.holds;
  unlimited = λ N m t u. (λ e. e.holds, enabled-unlimited N m t u);
  sources = λ net sheet h n t l.
      let r = accepted-reply net sheet h in
      source-enabled (petri_net net) (said net sheet) (closed net sheet r) refl (accepts net sheet r).schedule n t l;
}

-- ---- words without a key of a capacity

-- a number that no check of the list gives is not answered
pub not-answered : (k : ℕ) {checks : List Check} {plain : List ℕ} → (0 ≡ k → ⊥) → Spared k checks → ByChecks checks plain → number plain ≡ k → ⊥
not-answered k {checks} n s b e =
    let (r, f, q) = b.named (λ z. n (sym z ∙ e)) in
    spared-never k checks r s f (sym (ap number q) ∙ e)

module _ (net : List ℕ) (h : NoCapacityKeys net) where
  abbrev N : PetriNet
  N = petri_net net

  starts : (p : ℕ) → Within (capacity net p) (start net p)
  starts p c e = none-some _ c (no-capacity net h p) e

  arcs : (sheet : List ℕ) (i : ℕ) → ArcHasRoom N sheet i
  arcs sheet i a p l k c e = none-some _ c (no-capacity net h p) e

  as-without : AsWithout net
  as-without = record {
    unlimited = no-capacity net h;
    enabled = λ m t. enabling.unlimited N m t (λ p l k. no-capacity net h p);
    starts = starts;
    arcs = arcs;
  }

  net-26 : Spared 26 (net_checks net)
  net-26 =
      spared-append 26 (take 4 (net_checks net)) (drop 4 (net_checks net)) (without-spared 26 (take 4 (net_checks net)) refl)
      (λ p l. (λ e. starts p, tt), without-spared 26 (drop 5 (net_checks net)) refl)

  net-27 : Spared 27 (net_checks net)
  net-27 = without-spared 27 (net_checks net) refl

  graph-27 : (sheet : List ℕ) → Spared 27 (graph_checks N sheet)
  graph-27 sheet =
      spared-append 27 (take 3 (graph_checks N sheet)) (drop 3 (graph_checks N sheet)) (without-spared 27 (take 3 (graph_checks N sheet)) refl) (
        λ i l. (λ e. absurd (omega arith), (λ e. arcs sheet i, (λ e. absurd (omega arith), tt))),
        without-spared 27 (drop 4 (graph_checks N sheet)) refl,
      )

  -- all that a call checks: scratch, the net, the schedule, and what it asks besides
  call-spared : (k : ℕ) (s : List ℕ) (asked besides : List Check) → (21 ≡ k → ⊥) → Spared k (net_checks net) → Spared k asked → without k besides ≡ true
      → Spared k (call_checks scratch_limit s ((net_checks net ++ asked) ++ besides))
  call-spared k s asked besides n h g w =
      (λ e. absurd (n e), spared-append k (net_checks net ++ asked) besides (spared-append k (net_checks net) asked h g) (without-spared k besides w))

  both : {checks : List Check} {plain : List ℕ} → Spared 26 checks → Spared 27 checks → ByChecks checks plain → Spares plain
  both v w b = (not-answered 26 (λ z. omega arith) v b, not-answered 27 (λ z. omega arith) w b)

  call-spares : (s : List ℕ) (asked besides : List Check) {plain : List ℕ} → Spared 26 asked → Spared 27 asked → without 26 besides ≡ true → without 27 besides ≡ true
      → ByChecks (call_checks scratch_limit s ((net_checks net ++ asked) ++ besides)) plain → Spares plain
  call-spares s asked besides g h v w = both (call-spared 26 s asked besides (λ z. omega arith) net-26 g v) (call-spared 27 s asked besides (λ z. omega arith) net-27 h w)

  spares : (sheet s : List ℕ) (besides : List Check) {plain : List ℕ} → without 26 besides ≡ true → without 27 besides ≡ true
      → ByChecks (all_checks net sheet besides s) plain → Spares plain
  spares sheet s besides v w b =
      call-spares s (sheet_checks N sheet) besides (without-spared 26 (sheet_checks N sheet) refl)
      (spared-append 27 (word_checks N sheet) (graph_checks N sheet) (without-spared 27 (word_checks N sheet) refl) (graph-27 sheet)) v w b

  never-by : NeverBy net
  never-by = record {
    net_check = λ v d. both net-26 net-27 (demand1.net_check net v d);
    fresh-walker = λ v w d. both net-26 net-27 (demand1.fresh-walker net v w d).0;
    check = λ sheet s s' a d. spares sheet s [] refl refl ((demand1.check net sheet).by_numbers s s' a tt d);
    place_bounds = λ sheet out s out' s' v d.
        spares sheet s (once (N.places ≤ length out) SmallOutput ∷ []) refl refl ((demand1.place_bounds net sheet out).by_numbers s s' v out' d);
    fire = λ sheet s s' w next t a d. spares sheet s (walker_checks N sheet w t) refl refl ((demand1.fire net sheet w t).by_numbers s s' a next d);
    run = λ sheet firings out s out' s' a d.
        spares sheet s (run_checks N sheet firings ++ (once (N.places ≤ length out) SmallOutput ∷ [])) refl refl ((demand1.run net sheet firings out).by_numbers s s' a out' d);
    replay = λ sheet log taken put s taken' put' s' a d.
        spares sheet s (replay_checks N sheet log ++ (once ((N.places ≤ length taken) × (N.places ≤ length put)) SmallOutput ∷ [])) refl refl
        ((replay-demand.every net sheet log taken put).by_numbers s s' a (taken', put') d);
    minimal-form = λ sheet out s out' s' a d.
        let (needed, every) = demand1.minimal-form net sheet in
        spares sheet s (once (needed ≤ length out) SmallOutput ∷ []) refl refl ((every out).by_numbers s s' a out' d);
    mend = λ sheet out list s out' list' s' a d.
        let c = mend-demand.every net sheet in
        call-spares s (mend_checks N sheet) (once ((c.for_sheet ≤ length out) × (c.for_list ≤ length list)) SmallOutput ∷ []) (without-spared 26 (mend_checks N sheet) refl)
        (without-spared 27 (mend_checks N sheet) refl) refl refl ((c.every out list).by_numbers s s' a (out', list') d);
  }

-- ---- all of it

pub capacity-demand : CapacityDemand
capacity-demand = record { kept = kept; enabling = enabling; without = as-without; never = never-by }
