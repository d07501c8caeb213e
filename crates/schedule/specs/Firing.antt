-- Firing, as a computation: what the checks of a walker and of a run find, the walker that follows, and where a run ends.
use Rattle.refusal.specs.declared.Reason.TheVariants.{NotOffered}
use Rattle.std.specs.Prelude.{ℕ, zero, suc, ◌≡◌, List, [], ◌∷◌, ◌++◌, not, length, get_or, replicate, leb, eqb, Err, Ok}
use Rattle.std.proofs.Math.Option.{Option, none}
use Rattle.scan.specs.Scan.{when, found, first, tabulate, found_or}
use Rattle.refusal.specs.Limits.{most_places}
use Rattle.refusal.specs.Refusal.{refusal, Verdict}
use Rattle.refusal.specs.Verdict.{verdict_of, verdict_alone}
use Rattle.refusal.specs.Finding.{Tests, asked, line_finds, finding}
use Rattle.refusal.specs.declared.Position.TheVariants.{Record}
use Rattle.refusal.specs.declared.Refusal.{Refusal}
use Rattle.sequential.specs.Petri.{PetriNet, petri_net, initial, fired_count, fire_all}
use Rattle.sequential.specs.Words.{node_count, arc_entry, arc, count_at}
use Rattle.refusal.specs.Index.{index_from, Index}
use Rattle.schedule.specs.Walker.{walker, stand_checks, walker_checks}
use Rattle.schedule.specs.Plain.{RunAnswer}
use Rattle.schedule.specs.declared.Ran.{Ran}
use Rattle.schedule.specs.declared.Walker.{Walker}

-- ---- a fresh walker: §10.6

abbrev pub fresh_walker : Verdict → List ℕ → Walker
fresh_walker (Ok tt) net = walker 0 (tabulate (petri_net net).start most_places)
fresh_walker (Err r) net = walker 0 (replicate most_places 0)

-- ---- a single firing: §10.7

module _ (N : PetriNet) (sheet : List ℕ) (w : Walker) where
  abbrev pub stand_tests : List Tests
  stand_tests = asked (leb (node_count sheet) w.node) ∷ ((λ p. not (eqb (get_or w.counts p 0) (count_at N sheet w.node p))) ∷ []) ∷ []

  -- §7.19 at one place
  unfoldable pub count_fault : ℕ → Option Refusal
  count_fault p = line_finds (stand_checks N sheet w) stand_tests 1 p

  -- §7.18 and §7.19
  unfoldable pub walker_fault : Option Refusal
  walker_fault = finding (stand_checks N sheet w) stand_tests

  abbrev pub walker_tests : ℕ → List Tests
  walker_tests t = stand_tests ++ (asked (not (found (arc N sheet w.node t))) ∷ [])

  -- §7.18 to §7.20, in the order of §7.58
  unfoldable pub step_fault : ℕ → Option Refusal
  step_fault t = finding (walker_checks N sheet w t) (walker_tests t)

  -- the arc's target, with the counts that firing gives: §4.3
  unfoldable pub follows : ℕ → Walker
  follows t = walker (found_or w.node (λ m. m) (arc N sheet w.node t)) (tabulate (fired_count N w.counts t) most_places)

  -- the entry of the arc: §10.13
  unfoldable pub entry_fired : ℕ → ℕ
  entry_fired t = found_or 0 (λ i. i) (arc_entry N sheet w.node t)

-- ---- a run: §10.8

module _ (N : PetriNet) (sheet firings : List ℕ) where
  -- the node after n firings; a firing without an arc leaves it as it is
  unfoldable pub node_after : ℕ → ℕ
  node_after zero = 0
  node_after (suc i) = found_or (node_after i) (λ m. m) (arc N sheet (node_after i) (get_or firings i 0))

  -- the entry of the last arc after n firings, at the node to which the firings before lead; none if nothing is fired: §10.13
  unfoldable pub entry_after : ℕ → Option ℕ
  entry_after zero = none
  entry_after (suc i) = arc_entry N sheet (node_after i) (get_or firings i 0)

  abbrev pub last_entry : Index
  last_entry = index_from (entry_after (length firings))

  -- §7.20 at one index, at the node that the firings before it lead to (§7.58)
  unfoldable pub firing_fault : ℕ → Option Refusal
  firing_fault i = when (not (found (arc N sheet (node_after i) (get_or firings i 0)))) (refusal NotOffered (Record i))

  unfoldable pub run_fault : Option Refusal
  run_fault = first firing_fault (length firings)

unfoldable pub end_counts : List ℕ → List ℕ → List ℕ
end_counts net firings = fire_all (petri_net net) (initial (petri_net net)) firings

-- what following the firings finds: the first that is not offered; or, if all are, their number, the node at the end and the entry of the last arc
pub record FollowedTo (N : PetriNet) (sheet firings : List ℕ) (answer : RunAnswer) : Type 0 where
  pub reply : verdict_alone answer ≡ verdict_of (run_fault N sheet firings)
  pub ran : (r : Ran) → answer ≡ Ok r → r ≡ record { fired = length firings; node = node_after N sheet firings (length firings); entry = last_entry N sheet firings }
