-- What is promised of a replay (§13.10), for anything that meets its postcondition. proofs/Replay has a term for the record.
use Rattle.refusal.specs.declared.Reason.TheVariants.{NotOffered, SmallOutput}
use Rattle.std.specs.Prelude.{ℕ, suc, ◌+◌, ◌-◌, ◌≤◌, ◌<◌, ◌≡◌, ◌↔◌, ◌⊎◌, List, [], ◌∷◌, ◌++◌, length, get_or, drop}
use Rattle.std.proofs.Math.Option.{some}
use Rattle.scan.specs.Scan.{sum, tabulate}
use Rattle.automaton.specs.Automaton.{Automaton, follow}
use Rattle.refusal.specs.Limits.{scratch_limit}
use Rattle.refusal.specs.Refusal.{refusal, plain_refusal}
use Rattle.refusal.specs.Checks.{once, AllPass}
use Rattle.refusal.specs.declared.Position.TheVariants.{Record}
use Rattle.net.specs.Checks.{IsNet}
use Rattle.sequential.specs.Petri.{PetriNet, petri_net, initial, FiresEnabled}
use Rattle.sequential.specs.Schedule.{IsSchedule}
use Rattle.sequential.specs.Checks.{WordsPass}
use Rattle.lending.specs.Demands.{number, own, EveryCall}
use Rattle.schedule.specs.Calls.{RunDone}
use Rattle.schedule.specs.Plain.{plain_run, RunAnswer}
use Rattle.replay.specs.Log.{firing_count, logged_at, firings_to, firings, moved}
use Rattle.replay.specs.Checks.{log_checks, FiringOffered, NodeReached, replay_checks}
use Rattle.replay.specs.Calls.{ReplayDone}
use Rattle.replay.specs.Plain.{plain_replay, ReplayAnswer}
use Rattle.demands.specs.Terms.{said, all_checks}

-- all that a replay checks: §10.11
pub record Replayable (net sheet log taken put scratch : List ℕ) : Type 0 where
  pub scratch_holds : scratch_limit ≤ length scratch
  pub net_passes : IsNet net
  pub words_pass : WordsPass (petri_net net) sheet
  pub schedule : IsSchedule (petri_net net) (said net sheet)
  pub log_passes : AllPass (log_checks log)
  pub offered : (i : ℕ) → i < firing_count log → FiringOffered (petri_net net) sheet log i
  pub reached : (i : ℕ) → i < firing_count log → NodeReached (petri_net net) sheet log i
  pub taken_holds : (petri_net net).places ≤ length taken
  pub put_holds : (petri_net net).places ≤ length put

-- what an accepted log says, and what is written and answered for it: §10.12
pub record Replayed (N : PetriNet) (A : Automaton) (log taken put : List ℕ) (all-taken all-put : ℕ) (taken' put' : List ℕ) : Type 0 where
  -- its firings lead to each node that it names, and each is enabled where it is fired
  pub reached : (i : ℕ) → i < firing_count log → follow A 0 (firings_to log (suc i)) ≡ some (logged_at log i)
  pub end : ℕ
  pub ends : follow A 0 (firings log) ≡ some end
  pub enabled : FiresEnabled N (initial N) (firings log)
  -- what is written are the sums over its firings, place by place; the numbers behind them are as they were
  pub taken_written : taken' ≡ tabulate (moved N.taken log) N.places ++ drop N.places taken
  pub put_written : put' ≡ tabulate (moved N.put log) N.places ++ drop N.places put
  -- what is answered are the sums of these over all places
  pub taken_answered : all-taken ≡ sum (moved N.taken log) N.places
  pub put_answered : all-put ≡ sum (moved N.put log) N.places
  -- start plus put equals end plus taken, at each place; so the end is start plus put less taken, and this difference is not below 0
  pub balance : (p : ℕ) → p < N.places → N.start p + moved N.put log p ≡ get_or (A.label end) p 0 + moved N.taken log p
  pub left : (p : ℕ) → p < N.places → N.start p + moved N.put log p - moved N.taken log p ≡ get_or (A.label end) p 0

-- each number of two buffers is afterwards the same in both, or as it was in both
abbrev pub LeftAlike : List ℕ → List ℕ → List ℕ → List ℕ → Type 0
LeftAlike o₁ o₂ o₁' o₂' = (i : ℕ) → (get_or o₁' i 0 ≡ get_or o₂' i 0) ⊎ ((get_or o₁' i 0 ≡ get_or o₁ i 0) × (get_or o₂' i 0 ≡ get_or o₂ i 0))

-- it does what every call does (§13.1), by its checks; 22 if either buffer has fewer numbers than there are places
abbrev pub EveryReplay : List ℕ → List ℕ → List ℕ → List ℕ → List ℕ → Type 0
EveryReplay net sheet log taken put =
    EveryCall {Left = List ℕ × List ℕ} scratch_limit plain_replay
    (all_checks net sheet (replay_checks (petri_net net) sheet log ++ (once (((petri_net net).places ≤ length taken) × ((petri_net net).places ≤ length put)) SmallOutput ∷ [])))
    (taken, put) (λ s a left s'. ReplayDone net sheet log taken put s a left.0 left.1 s')

pub record ReplayDemand : Type 0 where
  pub every : (net sheet log taken put : List ℕ) → EveryReplay net sheet log taken put
  -- nothing depends on what the buffers and scratch held: §13.5
  pub unread : (net sheet log t₁ t₂ p₁ p₂ s₁ s₂ t₁' t₂' p₁' p₂' s₁' s₂' : List ℕ) (a₁ a₂ : ReplayAnswer) → length t₁ ≡ length t₂ → length p₁ ≡ length p₂ → length s₁ ≡ length s₂
      → ReplayDone net sheet log t₁ p₁ s₁ a₁ t₁' p₁' s₁' → ReplayDone net sheet log t₂ p₂ s₂ a₂ t₂' p₂' s₂'
      → (a₁ ≡ a₂) × LeftAlike t₁ t₂ t₁' t₂' × LeftAlike p₁ p₂ p₁' p₂'
  -- accepted exactly if all checks pass
  pub accepts : (net sheet log taken put s taken' put' s' : List ℕ) (a : ReplayAnswer) → ReplayDone net sheet log taken put s a taken' put' s'
      → (number (plain_replay a) ≡ 0) ↔ Replayable net sheet log taken put s
  -- an accepted log is a run, and the totals are those of its firings
  pub totals : (net sheet log taken put s taken' put' s' : List ℕ) (a : ReplayAnswer) → ReplayDone net sheet log taken put s a taken' put' s' → number (plain_replay a) ≡ 0
      → Replayed (petri_net net) (said net sheet) log taken put (own (plain_replay a) 0) (own (plain_replay a) 1) taken' put'
  -- if the nodes logged before firing i are those reached, the replay is refused by 20 at i exactly if the run of its transitions is
  pub runs : (net sheet log taken put s taken' put' s' out t out' t' : List ℕ) (a : ReplayAnswer) (b : RunAnswer) (i : ℕ)
      → ReplayDone net sheet log taken put s a taken' put' s' → RunDone net sheet (firings log) out t b out' t' → scratch_limit ≤ length s → scratch_limit ≤ length t
      → AllPass (log_checks log) → ((j : ℕ) → j < i → NodeReached (petri_net net) sheet log j)
      → (plain_replay a ≡ plain_refusal (refusal NotOffered (Record i))) ↔ (plain_run b ≡ plain_refusal (refusal NotOffered (Record i)))
