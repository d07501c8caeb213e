-- Walkers: what 18 to 20 say, a fresh walker, the walker that follows, and that it passes again.
use Rattle.std.specs.Prelude.{Ok}
use Rattle.refusal.specs.declared.Reason.TheVariants.{NotOffered}
use Rattle.scan.proofs.Basics.{ℕ, ◌+◌, ◌-◌, ◌≤◌, ◌<◌, arith, ◌≡◌, refl, sym, ap, ◌∙◌, ◌↔◌, true, not, ltb, none, some, List, length, get_or}
use native.Mathlib.Decide.{dec_lt}
use mathlib.Core.Bool.{and-false}
use Rattle.scan.proofs.Tests.{le-ltb, leb-false, lt-leb, eqb-true, eq-eqb, decides_not}
use Rattle.scan.specs.Scan.{or_else, when, found, tabulate}
use Rattle.scan.proofs.First.{or_else-assoc, found_some}
use Rattle.scan.proofs.Tabulate.{tabulate-length, tabulate-at, tabulate-ext}
use Rattle.refusal.specs.Refusal.{refusal}
use Rattle.refusal.specs.Finding.{found_by, finding}
use Rattle.refusal.specs.declared.Position.TheVariants.{Nothing}
use Rattle.refusal.proofs.Checks.{Decides, Decided, Lawful, Tells, finding-tells, ◌▸◌}
use Rattle.net.specs.Check.{net_reply}
use Rattle.net.proofs.Laws.{sizes, put_no_place, start_no_place}
use Rattle.sequential.specs.Petri.{PetriNet, petri_net, initial, fired_count, fire, Enabled}
use Rattle.sequential.specs.Words.{node_count, arc, count_at, marking, graph}
use Rattle.sequential.specs.Schedule.{Offers}
use Rattle.sequential.specs.Check.{schedule_reply}
use Rattle.sequential.proofs.Entries.{marking-at}
use Rattle.sequential.proofs.Accepted.{accepts, closed}
use Rattle.schedule.specs.Walker.{walker, stand_checks, walker_checks}
use Rattle.schedule.specs.Firing.{fresh_walker, stand_tests, walker_fault, walker_tests, step_fault, follows}
use Rattle.schedule.specs.Walks.{HandedBack}
use Rattle.schedule.specs.declared.Walker.{Walker}

-- ---- 18 to 20

pub count_past : (N : PetriNet) (sheet : List ℕ) (n p : ℕ) → N.places ≤ p → count_at N sheet n p ≡ 0
unfolding count_at
count_past N sheet n p l = rw (le-ltb p N.places l, and-false (ltb n (node_count sheet)))

-- an arc that is found is offered
pub offered↔ : (N : PetriNet) (sheet : List ℕ) (n t : ℕ) → (found (arc N sheet n t) ≡ true) ↔ Offers N (graph N sheet) n t
unfolding found
offered↔ N sheet n t = (λ e. found_some (arc N sheet n t) e, λ (m, e). rw e)

module _ (N : PetriNet) (sheet : List ℕ) (w : Walker) where
  stand-lawful : Lawful Unit (stand_checks N sheet w) (stand_tests N sheet w)
  unfolding Lawful Decided Decides
  stand-lawful = (λ h. (leb-false _ _, lt-leb _ _), (λ h p l. (decides_not _ (eqb-true _ _) (eq-eqb _ _), λ x. tt), tt))

  pub stand-tells : Tells (walker_fault N sheet w) (stand_checks N sheet w)
  unfolding walker_fault
  stand-tells = finding-tells Unit (stand_checks N sheet w) (stand_tests N sheet w) stand-lawful tt

  step-lawful : (t : ℕ) → Lawful Unit (walker_checks N sheet w t) (walker_tests N sheet w t)
  unfolding Lawful Decided Decides
  step-lawful t =
      (λ h. (leb-false _ _, lt-leb _ _)) ▸ (λ h p l. (decides_not _ (eqb-true _ _) (eq-eqb _ _), λ x. tt))
      ▸ (λ h. decides_not _ (offered↔ N sheet w.node t).0 (offered↔ N sheet w.node t).1) ▸ tt

  pub step-tells : (t : ℕ) → Tells (step_fault N sheet w t) (walker_checks N sheet w t)
  unfolding step_fault
  step-tells t = finding-tells Unit (walker_checks N sheet w t) (walker_tests N sheet w t) (step-lawful t) tt

  -- 20 comes after 18 and 19
  pub step-fault : (t : ℕ) → step_fault N sheet w t ≡ or_else (walker_fault N sheet w) (when (not (found (arc N sheet w.node t))) (refusal NotOffered Nothing))
  unfolding step_fault walker_fault finding found_by
  step-fault t = sym (or_else-assoc _ _ _)

  -- a walker that passes 18 and 19
  pub record WalkerPasses : Type 0 where
    pub node : w.node < node_count sheet
    pub holds : (p : ℕ) → p < 32 → get_or w.counts p 0 ≡ count_at N sheet w.node p

  pub walker-out : walker_fault N sheet w ≡ none → WalkerPasses
  walker-out h = let (a, (b, u)) = stand-tells.passes.0 h in record { node = a; holds = λ p l. (b p l).0 }

  pub walker-in : WalkerPasses → walker_fault N sheet w ≡ none
  walker-in h = stand-tells.passes.1 (h.node, (λ p l. (h.holds p l, tt), tt))

  pub step-passes : (t : ℕ) → WalkerPasses → Offers N (graph N sheet) w.node t → step_fault N sheet w t ≡ none
  step-passes t h o = (step-tells t).passes.1 (h.node, (λ p l. (h.holds p l, tt), (o, tt)))

-- ---- on an accepted sheet

module _ (net sheet : List ℕ) (accepted : schedule_reply net sheet ≡ Ok tt) where
  pub few_places : (petri_net net).places ≤ 32
  few_places = (sizes net (accepts net sheet accepted).net_accepted).few_places

  -- the counts of node 0 are the starting ones, at every place
  start-count : (p : ℕ) → (petri_net net).start p ≡ count_at (petri_net net) sheet 0 p
  unfolding initial
  start-count p = elim (dec_lt p (petri_net net).places) [
    | yes l ↦
        sym (tabulate-at (petri_net net).start 0 (petri_net net).places p l) ∙ ap (λ (x : List ℕ). get_or x p 0) (sym (accepts net sheet accepted).schedule.starts)
        ∙ marking-at (petri_net net) sheet 0 p (closed net sheet accepted).root l
    | no l ↦ start_no_place net p (omega arith) ∙ sym (count_past (petri_net net) sheet 0 p (omega arith))
  ]

  pub fresh-passes : walker_fault (petri_net net) sheet (fresh_walker (net_reply net) net) ≡ none
  fresh-passes = rw (accepts net sheet accepted).net_accepted (walker-in (petri_net net) sheet (fresh_walker (Ok tt) net) (record {
    node = (closed net sheet accepted).root;
    holds = λ p l. tabulate-at (petri_net net).start 0 32 p l ∙ start-count p;
  }))

  pub fresh-length : length (fresh_walker (net_reply net) net).counts ≡ 32
  fresh-length = rw (accepts net sheet accepted).net_accepted (tabulate-length (petri_net net).start 32)

  pub fresh-node : (fresh_walker (net_reply net) net).node ≡ 0
  fresh-node = rw (accepts net sheet accepted).net_accepted

  -- ---- a firing that passes

  module _ (w : Walker) (t m : ℕ) (passes : WalkerPasses (petri_net net) sheet w) (e : arc (petri_net net) sheet w.node t ≡ some m) where
    -- what the walker holds is its node's marking
    held : (p : ℕ) → p < (petri_net net).places → get_or w.counts p 0 ≡ get_or (marking (petri_net net) sheet w.node) p 0
    held p l = passes.holds p (omega (arith, few_places)) ∙ sym (marking-at (petri_net net) sheet w.node p passes.node l)

    pub fires-enabled : Enabled (petri_net net) w.counts t
    fires-enabled =
        let h = (accepts net sheet accepted).schedule.enables w.node t m passes.node e in
        record { holds = λ p l. rw (held p l) (h.holds p l); room = λ p l. rw (held p l) (h.room p l) }

    pub target-node : m < node_count sheet
    target-node = (closed net sheet accepted).lands w.node t m passes.node e

    -- the target's counts are what firing gives, at every place
    target-count : (p : ℕ) → p < 32 → fired_count (petri_net net) w.counts t p ≡ count_at (petri_net net) sheet m p
    unfolding fired_count fire
    target-count p k = elim (dec_lt p (petri_net net).places) [
      | yes l ↦
          ap (λ (x : ℕ). x - (petri_net net).taken t p + (petri_net net).put t p) (held p l)
          ∙ sym (tabulate-at (fired_count (petri_net net) (marking (petri_net net) sheet w.node) t) 0 (petri_net net).places p l)
          ∙ ap (λ (x : List ℕ). get_or x p 0) (sym ((accepts net sheet accepted).schedule.lands w.node t m passes.node e))
          ∙ marking-at (petri_net net) sheet m p target-node l
      | no l ↦
          let a = passes.holds p k ∙ count_past (petri_net net) sheet w.node p (omega arith) in
          let b = put_no_place net t p (omega arith) in
          let c = count_past (petri_net net) sheet m p (omega arith) in
          omega arith
    ]

    pub follows_is : follows (petri_net net) sheet w t ≡ walker m (tabulate (count_at (petri_net net) sheet m) 32)
    unfolding follows
    follows_is = rw e (ap (walker m) (tabulate-ext _ _ 32 target-count))

    pub handed-back : HandedBack (petri_net net) sheet w t (follows (petri_net net) sheet w t)
    unfolding fired_count
    handed-back =
        let count : (p : ℕ) → p < 32 → get_or (tabulate (count_at (petri_net net) sheet m) 32) p 0 ≡ count_at (petri_net net) sheet m p = tabulate-at _ 0 32 in
        rw follows_is (record {
          target = e;
          enabled = fires-enabled;
          stands = record {
            node = refl;
            counts = tabulate-length _ 32;
            holds = λ p l. let k : p < 32 = omega (arith, few_places) in count p k ∙ sym (target-count p k);
            zeros = λ p l k. count p k ∙ count_past (petri_net net) sheet m p l;
          };
          passes = walker-in (petri_net net) sheet (walker m (tabulate (count_at (petri_net net) sheet m) 32)) (record { node = target-node; holds = count });
        })
