-- What is promised of capacities (§13.13): no place is ever above its capacity, and words without a key of a capacity are answered as if capacities did not exist.
-- proofs/Capacities has a term for the record. The lists of checks (`Demand1`) say when 26 and 27 are answered.
use Rattle.std.specs.Prelude.{ℕ, ◌<◌, ◌≡◌, ◌↔◌, List, true, get_or}
use Rattle.std.proofs.Math.Option.{none}
use Rattle.automaton.specs.Automaton.{allows}
use Rattle.refusal.specs.Refusal.{plain_verdict, Verdict}
use Rattle.net.specs.Net.{Within, start, capacity}
use Rattle.net.specs.Checks.{IsNet}
use Rattle.net.specs.Check.{NetDone}
use Rattle.net.specs.Demands.{NoCapacityKeys}
use Rattle.sequential.specs.Petri.{PetriNet, petri_net, initial, HoldsTaken, Enabled, FiresEnabled, Source}
use Rattle.sequential.specs.Schedule.{Await}
use Rattle.sequential.specs.Runs.{WithinCapacities, StaysWithin}
use Rattle.sequential.specs.Checks.{ArcHasRoom}
use Rattle.judge.specs.Answer.{plain_check, CheckAnswer}
use Rattle.lending.specs.Demands.{number}
use Rattle.schedule.specs.Calls.{CheckDone, BoundsDone, FreshDone, FireDone, RunDone}
use Rattle.schedule.specs.Plain.{plain_fire, plain_run, FireAnswer, RunAnswer}
use Rattle.schedule.specs.declared.Walker.{Walker}
use Rattle.replay.specs.Calls.{ReplayDone}
use Rattle.replay.specs.Plain.{plain_replay, ReplayAnswer}
use Rattle.minimal.specs.Form.{plain_form, FormDone, FormAnswer}
use Rattle.mended.specs.Call.{plain_mend, MendDone, MendAnswer}
use Rattle.demands.specs.Terms.{said, Accepted}

-- ---- within capacities

pub record KeptWithin : Type 0 where
  -- for a net without a schedule: enabled firings from the initial marking on (§4.6)
  pub firings : (net σ : List ℕ) → IsNet net → FiresEnabled (petri_net net) (initial (petri_net net)) σ → StaysWithin (petri_net net) (initial (petri_net net)) σ
  -- for an accepted schedule: each list that it allows, each node, and each word that place bounds writes
  pub lists : (net sheet σ : List ℕ) → Accepted net sheet → allows (said net sheet) 0 σ ≡ true → StaysWithin (petri_net net) (initial (petri_net net)) σ
  pub nodes : (net sheet : List ℕ) → Accepted net sheet → (n : ℕ) → n < (said net sheet).nodes → WithinCapacities (petri_net net) ((said net sheet).label n)
  pub bounds : (net sheet out s out' s' : List ℕ) (v : Verdict) → BoundsDone net sheet out s v out' s' → number (plain_verdict v) ≡ 0
      → (p : ℕ) → p < (petri_net net).places → Within ((petri_net net).capacity p) (get_or out' p 0)

-- ---- enabling

pub record Enabling : Type 0 where
  -- an enabled transition takes no more than there is; if no place into which it puts has a capacity, nothing else is asked (§4.6)
  pub taking : (N : PetriNet) (marking : List ℕ) (t : ℕ) → Enabled N marking t → HoldsTaken N marking t
  pub unlimited : (N : PetriNet) (marking : List ℕ) (t : ℕ) → ((p : ℕ) → p < N.places → 0 < N.put t p → N.capacity p ≡ none)
      → Enabled N marking t ↔ HoldsTaken N marking t
  -- at an await node of an accepted schedule every source is enabled
  pub sources : (net sheet : List ℕ) → Accepted net sheet → (n t : ℕ) → n < (said net sheet).nodes → Await (petri_net net) (said net sheet) n
      → t < (petri_net net).transitions → Source (petri_net net) t → Enabled (petri_net net) ((said net sheet).label n) t

-- ---- words without a key of a capacity, whether or not they are a net

-- to be enabled, a transition must only take no more than there is; and the clauses of 26 and 27 hold
pub record AsWithout (net : List ℕ) : Type 0 where
  pub unlimited : (p : ℕ) → (petri_net net).capacity p ≡ none
  pub enabled : (marking : List ℕ) (t : ℕ) → Enabled (petri_net net) marking t ↔ HoldsTaken (petri_net net) marking t
  pub starts : (p : ℕ) → Within (capacity net p) (start net p)
  pub arcs : (sheet : List ℕ) (i : ℕ) → ArcHasRoom (petri_net net) sheet i

-- an answer that is neither 26 nor 27
abbrev pub Spares : List ℕ → Type 0
Spares plain = (number plain ≡ 26 → ⊥) × (number plain ≡ 27 → ⊥)

-- no call answers 26 or 27
pub record NeverBy (net : List ℕ) : Type 0 where
  pub net_check : (v : Verdict) → NetDone net v → Spares (plain_verdict v)
  pub fresh-walker : (v : Verdict) (w : Walker) → FreshDone net v w → Spares (plain_verdict v)
  pub check : (sheet s s' : List ℕ) (a : CheckAnswer) → CheckDone net sheet s a s' → Spares (plain_check a)
  pub place_bounds : (sheet out s out' s' : List ℕ) (v : Verdict) → BoundsDone net sheet out s v out' s' → Spares (plain_verdict v)
  pub fire : (sheet s s' : List ℕ) (w next : Walker) (t : ℕ) (a : FireAnswer) → FireDone net sheet s w t a next s' → Spares (plain_fire a)
  pub run : (sheet firings out s out' s' : List ℕ) (a : RunAnswer) → RunDone net sheet firings out s a out' s' → Spares (plain_run a)
  pub replay : (sheet log taken put s taken' put' s' : List ℕ) (a : ReplayAnswer) → ReplayDone net sheet log taken put s a taken' put' s' → Spares (plain_replay a)
  pub minimal-form : (sheet out s out' s' : List ℕ) (a : FormAnswer) → FormDone net sheet out s a out' s' → Spares (plain_form a)
  pub mend : (sheet out list s out' list' s' : List ℕ) (a : MendAnswer) → MendDone net sheet out list s a out' list' s' → Spares (plain_mend a)

pub record CapacityDemand : Type 0 where
  pub kept : KeptWithin
  pub enabling : Enabling
  pub without : (net : List ℕ) → NoCapacityKeys net → AsWithout net
  pub never : (net : List ℕ) → NoCapacityKeys net → NeverBy net
