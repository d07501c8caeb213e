-- Demand 2 (§13.2, §13.3): which schedules are accepted, what is named if one is not, what is counted and fired, and what holds of all runs of an accepted one.
-- proofs/Demand2 has a term for this record.
use Rattle.std.specs.Prelude.{ℕ, suc, ◌*◌, ◌/◌, ◌%◌, ◌≤◌, ◌<◌, ◌≡◌, ◌↔◌, List, [], ◌∷◌, ◌++◌, true, length, get_or, drop}
use Rattle.std.proofs.Math.Option.{some}
use Rattle.automaton.specs.Automaton.{Automaton, follow, allows}
use Rattle.automaton.specs.Reach.{Reachable}
use Rattle.refusal.specs.Refusal.{plain_verdict, Verdict}
use Rattle.refusal.specs.Checks.{AllPass}
use Rattle.net.specs.Checks.{IsNet}
use Rattle.sequential.specs.Petri.{PetriNet, petri_net, initial, fired_count, fire_all, Enabled, FiresEnabled}
use Rattle.sequential.specs.Schedule.{Offers, Await, ToAwait, IsSchedule}
use Rattle.sequential.specs.Published.{SequentialSchedule}
use Rattle.sequential.specs.Runs.{LeastBound}
use Rattle.sequential.specs.Checks.{WordsPass}
use Rattle.judge.specs.Answer.{plain_check, CheckAnswer}
use Rattle.lending.specs.Demands.{number, own, ByChecks}
use Rattle.schedule.specs.Walker.{Stands, walker_checks}
use Rattle.refusal.specs.Limits.{scratch_limit}
use Rattle.schedule.specs.Calls.{CheckDone, BoundsDone, FreshDone, FireDone, RunDone}
use Rattle.schedule.specs.Plain.{plain_fire, plain_run, FireAnswer, RunAnswer}
use Rattle.schedule.specs.declared.Walker.{Walker}
use Rattle.demands.specs.Terms.{said, all_checks, Accepted}

-- k of the numbers 0, 1, .., n - 1 have the property
pub data HowMany (Such : ℕ → Type 0) : ℕ → ℕ → Type 0 where
  none_yet : HowMany Such 0 0
  one_more : (n k : ℕ) → HowMany Such n k → Such n → HowMany Such (suc n) (suc k)
  no_more : (n k : ℕ) → HowMany Such n k → (Such n → ⊥) → HowMany Such (suc n) k

-- the numbers of nodes, of arcs, each of which is known by its key, and of await nodes: §10.3
pub record Counted (N : PetriNet) (A : Automaton) (nodes arcs awaits : ℕ) : Type 0 where
  pub all_nodes : nodes ≡ A.nodes
  pub all_arcs : HowMany (λ key. Offers N A (key / N.transitions) (key % N.transitions)) (A.nodes * N.transitions) arcs
  pub all_awaits : HowMany (Await N A) A.nodes awaits

-- the words at the front of a buffer are, for each place, the least number that no run exceeds there; the words behind them are as they were: §10.4, §9.4
pub record LeastBounds (N : PetriNet) (A : Automaton) (out out' : List ℕ) : Type 0 where
  pub least : (p : ℕ) → p < N.places → LeastBound N A p (get_or out' p 0)
  pub past : (i : ℕ) → N.places ≤ i → get_or out' i 0 ≡ get_or out i 0
  pub length_kept : length out' ≡ length out

-- a firing follows an arc by an enabled transition; the counts are those that firing gives, and from the new walker every transition offered can be fired: §10.7
pub record FiresRight (N : PetriNet) (sheet : List ℕ) (A : Automaton) (w : Walker) (t : ℕ) (next : Walker) : Type 0 where
  pub arc : A.arc w.node t ≡ some next.node
  pub enabled : Enabled N w.counts t
  pub stands : Stands N next next.node (fired_count N w.counts t)
  pub passes : (u : ℕ) → Offers N A next.node u → AllPass (walker_checks N sheet next u)

-- a run fires its whole record, each transition where it is enabled, and ends at the node that it tells, whose counts it writes: §10.8
pub record RanAll (N : PetriNet) (A : Automaton) (firings out : List ℕ) (fired node : ℕ) (out' : List ℕ) : Type 0 where
  pub all : fired ≡ length firings
  pub ends : follow A 0 firings ≡ some node
  pub enabled : FiresEnabled N (initial N) firings
  pub holds : fire_all N (initial N) firings ≡ A.label node
  pub written : out' ≡ A.label node ++ drop N.places out

pub record Demand2 : Type 0 where
  -- accepted exactly if there is enough scratch, the words of the net are right, and those of the schedule are right and describe a sequential schedule: §13.2, §6.1
  pub accepts : (net sheet s s' : List ℕ) (a : CheckAnswer) → CheckDone net sheet s a s'
      → (number (plain_check a) ≡ 0) ↔ ((scratch_limit ≤ length s) × IsNet net × WordsPass (petri_net net) sheet × IsSchedule (petri_net net) (said net sheet))
  -- an accepted schedule is one in the published sense, and all its nodes are reached: §6.12
  pub published : (net sheet s s' : List ℕ) (a : CheckAnswer) → CheckDone net sheet s a s' → scratch_limit ≤ length s → IsNet net → WordsPass (petri_net net) sheet
      → (number (plain_check a) ≡ 0) ↔ (SequentialSchedule (petri_net net) (said net sheet) × ((n : ℕ) → n < (said net sheet).nodes → Reachable (said net sheet) n))
  -- otherwise the first check that fails is named: §7.54
  pub names : (net sheet s s' : List ℕ) (a : CheckAnswer) → CheckDone net sheet s a s' → ByChecks (all_checks net sheet [] s) (plain_check a)
  -- what is counted: §10.3
  pub counts : (net sheet s s' : List ℕ) (a : CheckAnswer) → CheckDone net sheet s a s' → number (plain_check a) ≡ 0
      → Counted (petri_net net) (said net sheet) (own (plain_check a) 0) (own (plain_check a) 1) (own (plain_check a) 2)
  -- what is fired, from a fresh walker on: §10.6 to §10.8
  pub fresh : (net : List ℕ) (v : Verdict) (w : Walker) → FreshDone net v w → number (plain_verdict v) ≡ 0 → Stands (petri_net net) w 0 (petri_net net).start
  pub fires : (net sheet s s' : List ℕ) (w next : Walker) (t : ℕ) (a : FireAnswer) → FireDone net sheet s w t a next s' → number (plain_fire a) ≡ 0
      → FiresRight (petri_net net) sheet (said net sheet) w t next
  pub runs : (net sheet firings out s out' s' : List ℕ) (a : RunAnswer) → RunDone net sheet firings out s a out' s' → number (plain_run a) ≡ 0
      → RanAll (petri_net net) (said net sheet) firings out (own (plain_run a) 0) (own (plain_run a) 1) out'
  -- every run of an accepted schedule fires only enabled transitions and can go on, and every node has a way to an await node: §13.3
  pub enabled : (net sheet σ : List ℕ) → Accepted net sheet → allows (said net sheet) 0 σ ≡ true → FiresEnabled (petri_net net) (initial (petri_net net)) σ
  pub goes_on : (net sheet σ : List ℕ) → Accepted net sheet → allows (said net sheet) 0 σ ≡ true → (t : ℕ) × (allows (said net sheet) 0 (σ ++ (t ∷ [])) ≡ true)
  pub returns : (net sheet : List ℕ) → Accepted net sheet → (n : ℕ) → n < (said net sheet).nodes → ToAwait (petri_net net) (said net sheet) n
  -- each word that place bounds writes is the least bound that all runs keep: §10.4, §13.3
  pub bounds : (net sheet out s out' s' : List ℕ) (v : Verdict) → BoundsDone net sheet out s v out' s' → number (plain_verdict v) ≡ 0
      → LeastBounds (petri_net net) (said net sheet) out out'
