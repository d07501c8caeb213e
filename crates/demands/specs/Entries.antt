-- What is promised of the entry that a single firing, a run and a replay name (§13.11), for anything that meets their postconditions. proofs/Entries has a
-- term for the record.
use Rattle.refusal.specs.Refusal.{Verdict}
use Rattle.std.specs.Prelude.{ℕ, suc, ◌+◌, ◌*◌, ◌<◌, ◌≡◌, ◌↔◌, ◌⊎◌, List, [], ◌∷◌, ◌++◌}
use Rattle.std.proofs.Math.Option.{some}
use Rattle.automaton.specs.Automaton.{follow}
use Rattle.sequential.specs.Petri.{PetriNet, petri_net}
use Rattle.sequential.specs.Words.{entry_count, entry_key, entry_value}
use Rattle.lending.specs.Demands.{number, own}
use Rattle.schedule.specs.Calls.{FreshDone, FireDone, RunDone}
use Rattle.schedule.specs.Plain.{plain_fire, plain_run, FireAnswer, RunAnswer}
use Rattle.schedule.specs.declared.Walker.{Walker}
use Rattle.replay.specs.Log.{firing_count, fired_at, logged_at, firings_to, firings}
use Rattle.replay.specs.Calls.{ReplayDone}
use Rattle.replay.specs.Plain.{plain_replay, ReplayAnswer}
use Rattle.demands.specs.Terms.{said, Accepted}
use Rattle.demands.specs.Further.{Firings}

-- a plain number tells the entry (§8.4) of the arc by t from node n (§3.5), which leads to m
pub record Names (N : PetriNet) (sheet : List ℕ) (n t m told : ℕ) : Type 0 where
  pub entry : ℕ
  pub one_more : told ≡ entry + 1
  pub below : entry < entry_count sheet
  pub key : entry_key sheet entry ≡ n * N.transitions + t
  pub value : entry_value sheet entry ≡ m

pub record EntryDemand : Type 0 where
  -- ---- which entry is named: that of the last firing's arc, from the node where it is fired to the node that is told
  pub fires : (net sheet s s' : List ℕ) (w next : Walker) (t : ℕ) (a : FireAnswer) → FireDone net sheet s w t a next s' → number (plain_fire a) ≡ 0
      → Names (petri_net net) sheet w.node t next.node (own (plain_fire a) 0)
  pub runs : (net sheet σ out s out' s' : List ℕ) (t : ℕ) (a : RunAnswer) → RunDone net sheet (σ ++ (t ∷ [])) out s a out' s' → number (plain_run a) ≡ 0
      → (n : ℕ) × (follow (said net sheet) 0 σ ≡ some n) × Names (petri_net net) sheet n t (own (plain_run a) 1) (own (plain_run a) 2)
  pub replays : (net sheet log taken put s taken' put' s' : List ℕ) (i : ℕ) (a : ReplayAnswer) → ReplayDone net sheet log taken put s a taken' put' s' → number (plain_replay a) ≡ 0
      → firing_count log ≡ suc i
      → (n : ℕ) × (follow (said net sheet) 0 (firings_to log i) ≡ some n) × Names (petri_net net) sheet n (fired_at log i) (logged_at log i) (own (plain_replay a) 2)
  -- ---- when it is missing: exactly if the call is refused, or if nothing is fired
  pub fire_missing : (net sheet s s' : List ℕ) (w next : Walker) (t : ℕ) (a : FireAnswer) → FireDone net sheet s w t a next s'
      → (own (plain_fire a) 0 ≡ 0) ↔ (number (plain_fire a) ≡ 0 → ⊥)
  pub run_missing : (net sheet firings out s out' s' : List ℕ) (a : RunAnswer) → RunDone net sheet firings out s a out' s'
      → (own (plain_run a) 2 ≡ 0) ↔ ((number (plain_run a) ≡ 0 → ⊥) ⊎ (firings ≡ []))
  pub replay_missing : (net sheet log taken put s taken' put' s' : List ℕ) (a : ReplayAnswer) → ReplayDone net sheet log taken put s a taken' put' s'
      → (own (plain_replay a) 2 ≡ 0) ↔ ((number (plain_replay a) ≡ 0 → ⊥) ⊎ (firing_count log ≡ 0))
  -- ---- which answers name the same entry
  -- those of a replay and of the run of its transitions
  pub as_run : (net sheet log taken put s taken' put' s' out t out' t' : List ℕ) (a : ReplayAnswer) (b : RunAnswer)
      → ReplayDone net sheet log taken put s a taken' put' s' → number (plain_replay a) ≡ 0 → RunDone net sheet (firings log) out t b out' t' → number (plain_run b) ≡ 0
      → own (plain_replay a) 2 ≡ own (plain_run b) 2
  -- those of each single firing in a row, from a fresh walker on, and of the run up to it
  pub in_a_row : (net sheet σ s s' out r out' r' : List ℕ) (v : Verdict) (w x next : Walker) (t : ℕ) (a : FireAnswer) (b : RunAnswer)
      → Accepted net sheet → FreshDone net v w → Firings net sheet w σ x → FireDone net sheet s x t a next s' → number (plain_fire a) ≡ 0
      → RunDone net sheet (σ ++ (t ∷ [])) out r b out' r' → number (plain_run b) ≡ 0 → own (plain_fire a) 0 ≡ own (plain_run b) 2
