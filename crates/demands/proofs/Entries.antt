-- What is promised of the entry that is named, proved.
use Rattle.std.specs.Prelude.{Some}
use Rattle.scan.proofs.Basics.{ℕ, zero, suc, ◌+◌, arith, ◌≡◌, refl, sym, ap, ◌∙◌, ◌⊎◌, inl, inr, ⊎_elim, ◌↔◌, some, List, [], ◌∷◌, ◌++◌, length, get_or, length-append}
use lib.Seq.{take-append_seam, get_or-append-add}
use Rattle.scan.proofs.Tests.{by_equal}
use Rattle.refusal.specs.Checks.{Check}
use Rattle.automaton.specs.Automaton.{follow}
use Rattle.automaton.proofs.Automaton.{same_target}
use Rattle.refusal.proofs.Verdicts.{answer-none, then-accepted}
use Rattle.lending.specs.Call.{Core, CallDone}
use Rattle.sequential.specs.Petri.{PetriNet, petri_net}
use Rattle.sequential.specs.Words.{entry_value, arc_entry}
use Rattle.sequential.specs.Check.{schedule_reply}
use Rattle.refusal.specs.Index.{plain_index, index_from}
use Rattle.lending.specs.Demands.{number, own}
use Rattle.lending.proofs.Judged.{Lawful}
use Rattle.lending.proofs.Done.{done-zero, own-answered, own-refused}
use Rattle.sequential.proofs.Entries.{entry_of}
use Rattle.schedule.specs.Calls.{FireDone, RunDone}
use Rattle.schedule.specs.Plain.{plain_fire, plain_run, FireAnswer, RunAnswer}
use Rattle.schedule.specs.Firing.{node_after, entry_after, last_entry}
use Rattle.schedule.specs.declared.Walker.{Walker}
use Rattle.schedule.proofs.Walks.{entry_key_lem, entry-fired}
use Rattle.schedule.proofs.Following.{LastFiring, last-firing}
use Rattle.schedule.proofs.Folded.{along-chain}
use Rattle.schedule.proofs.Done.{fire-law, run-law}
use Rattle.replay.specs.Log.{firing_count, firings}
use Rattle.replay.specs.Calls.{ReplayDone}
use Rattle.replay.specs.Plain.{plain_replay, ReplayAnswer}
use Rattle.replay.proofs.Following.{firings-long}
use Rattle.replay.proofs.Replays.{LastOfLog, last-of-log}
use Rattle.replay.proofs.Done.{replay-law}
use Rattle.demands.specs.Terms.{said}
use Rattle.demands.specs.Entries.{Names, EntryDemand}
use Rattle.demands.proofs.Checked.{accepted-reply}
use Rattle.demands.proofs.Demand2.{demand2}
use Rattle.demands.proofs.Further.{calls-chain, fresh_kept}

-- the entry of an arc, told as a plain number
names : (N : PetriNet) (sheet : List ℕ) (n t m k told : ℕ) → arc_entry N sheet n t ≡ some k → entry_value sheet k ≡ m → told ≡ plain_index (Some k) → Names N sheet n t m told
names N sheet n t m k told e v p = let (l, q) = entry_key_lem N sheet n t k e in record { entry = k; one_more = p; below = l; key = q; value = v }

-- one's own number that tells an entry is 0 exactly where the answer is refused, or where there is no firing to tell of
missing : {Answer : Type 0} {core : Core Answer} {plain : Answer → List ℕ} {numbers : List ℕ} {words : List Check} (law : Lawful core plain numbers words)
    {limit : ℕ} {outs outs' : List (List ℕ)} {s s' : List ℕ} {a : Answer} (d : CallDone limit core outs s a outs' s') (i : ℕ) {NoFiring : Type 0}
    → (NoFiring → get_or numbers i 0 ≡ 0) → (number (plain a) ≡ 0 → NoFiring ⊎ ((j : ℕ) × (own (plain a) i ≡ plain_index (Some j))))
    → (own (plain a) i ≡ 0) ↔ ((number (plain a) ≡ 0 → ⊥) ⊎ NoFiring)
missing {plain = plain} law {a = a} d i nothing last = (
  λ e. by_equal (number (plain a)) 0 (λ z. ⊎_elim inr (λ (j, q). absurd (omega arith)) (last z)) inl,
  ⊎_elim (λ n. own-refused law d n i) (λ x. by_equal (number (plain a)) 0 (λ z. own-answered law d z i ∙ nothing x) (λ n. own-refused law d n i)),
)

-- ---- a single firing

module _ (net sheet s s' : List ℕ) (w next : Walker) (t : ℕ) (a : FireAnswer) (d : FireDone net sheet s w t a next s') where
  fired-entry : number (plain_fire a) ≡ 0
      → (k : ℕ) × (arc_entry (petri_net net) sheet w.node t ≡ some k) × (entry_value sheet k ≡ next.node) × (own (plain_fire a) 0 ≡ plain_index (Some k))
  fired-entry z =
      let (k, e, v) = entry_of (petri_net net) sheet w.node t next.node (demand2.fires net sheet s s' w next t a d z).arc in
      (k, e, v, own-answered (fire-law net sheet w t) d z 0 ∙ ap (λ (i : ℕ). plain_index (Some i)) (entry-fired (petri_net net) sheet w t k e))

  fire_missing : (own (plain_fire a) 0 ≡ 0) ↔ (number (plain_fire a) ≡ 0 → ⊥)
  fire_missing = (λ e z. let (k, f, v, q) = fired-entry z in omega arith, λ n. own-refused (fire-law net sheet w t) d n 0)

-- ---- a run

module _ (net sheet firings out s out' s' : List ℕ) (a : RunAnswer) (d : RunDone net sheet firings out s a out' s') where
  run-entry : number (plain_run a) ≡ 0 → (i : ℕ) → length firings ≡ suc i → (k : ℕ) × LastFiring (petri_net net) sheet firings i k × (own (plain_run a) 2 ≡ plain_index (Some k))
  run-entry z i l =
      let passed = answer-none _ (then-accepted (schedule_reply net sheet) _ (done-zero (run-law net sheet firings) d z).passed).1 in
      let (k, f) = last-firing (petri_net net) sheet firings passed i l in
      (k, f, own-answered (run-law net sheet firings) d z 2 ∙ ap plain_index f.named)

  run_missing : (own (plain_run a) 2 ≡ 0) ↔ ((number (plain_run a) ≡ 0 → ⊥) ⊎ (firings ≡ []))
  unfolding entry_after
  run_missing = missing (run-law net sheet firings) d 2 (λ q. ap (λ (f : List ℕ). plain_index (last_entry (petri_net net) sheet f)) q) (told firings refl)
    where
      told : (σ : List ℕ) → firings ≡ σ → number (plain_run a) ≡ 0 → (firings ≡ []) ⊎ ((k : ℕ) × (own (plain_run a) 2 ≡ plain_index (Some k)))
      told [] e z = inl e
      told (t ∷ σ) e z = let (k, f, q) = run-entry z (length σ) (ap length e) in inr (k, q)

-- of a list and one firing more
module _ (net sheet σ out s out' s' : List ℕ) (t : ℕ) (a : RunAnswer) (d : RunDone net sheet (σ ++ (t ∷ [])) out s a out' s') (z : number (plain_run a) ≡ 0) where
  last-there : get_or (σ ++ (t ∷ [])) (length σ) 0 ≡ t
  last-there = let q : length σ ≡ length σ + 0 = omega arith in ap (λ (i : ℕ). get_or (σ ++ (t ∷ [])) i 0) q ∙ get_or-append-add σ (t ∷ []) 0 0

  ran-entry : (n : ℕ) × (k : ℕ) × (follow (said net sheet) 0 σ ≡ some n) × (arc_entry (petri_net net) sheet n t ≡ some k) × (entry_value sheet k ≡ own (plain_run a) 1)
      × (own (plain_run a) 2 ≡ plain_index (Some k))
  ran-entry =
      let N = petri_net net in
      let firings = σ ++ (t ∷ []) in
      let l : length firings ≡ suc (length σ) = simp length-append (omega arith) in
      let (k, f, q) = run-entry net sheet firings out s out' s' a d z (length σ) l in (
        node_after N sheet firings (length σ),
        k,
        ap (follow (said net sheet) 0) (sym (take-append_seam σ (t ∷ []))) ∙ f.before,
        ap (arc_entry N sheet (node_after N sheet firings (length σ))) (sym last-there) ∙ f.entry,
        f.lands ∙ sym (own-answered (run-law net sheet firings) d z 1),
        q,
      )

-- ---- a replay

module _ (net sheet log taken put s taken' put' s' : List ℕ) (a : ReplayAnswer) (d : ReplayDone net sheet log taken put s a taken' put' s') where
  replay-entry : (z : number (plain_replay a) ≡ 0) (i : ℕ) → firing_count log ≡ suc i
      → (n : ℕ) × (k : ℕ) × LastOfLog net sheet log (done-zero (replay-law net sheet log) d z).passed i n k × (own (plain_replay a) 2 ≡ plain_index (Some k))
  replay-entry z i l =
      let (n, k, f) = last-of-log net sheet log (done-zero (replay-law net sheet log) d z).passed i l in
      (n, k, f, own-answered (replay-law net sheet log) d z 2 ∙ ap plain_index f.named)

  replay_missing : (own (plain_replay a) 2 ≡ 0) ↔ ((number (plain_replay a) ≡ 0 → ⊥) ⊎ (firing_count log ≡ 0))
  unfolding entry_after
  replay_missing =
      missing (replay-law net sheet log) d 2 (λ q. ap (λ (i : ℕ). plain_index (index_from (entry_after (petri_net net) sheet (firings log) i))) (firings-long log ∙ q)) (told (firing_count log) refl)
    where
      told : (n : ℕ) → firing_count log ≡ n → number (plain_replay a) ≡ 0 → (firing_count log ≡ 0) ⊎ ((k : ℕ) × (own (plain_replay a) 2 ≡ plain_index (Some k)))
      told zero e z = inl e
      told (suc i) e z = let (n, k, f, q) = replay-entry z i e in inr (k, q)

-- ---- all of it

pub entry-demand : EntryDemand
entry-demand = record {
  fires = λ net sheet s s' w next t a d z. let (k, e, v, q) = fired-entry net sheet s s' w next t a d z in names _ _ _ _ _ k _ e v q;
  runs = λ net sheet σ out s out' s' t a d z. let (n, k, f, e, v, q) = ran-entry net sheet σ out s out' s' t a d z in (n, f, names _ _ _ _ _ k _ e v q);
  replays = λ net sheet log taken put s taken' put' s' i a d z l.
      let (n, k, f, q) = replay-entry net sheet log taken put s taken' put' s' a d z i l in (n, f.before, names _ _ _ _ _ k _ f.entry f.lands q);
  fire_missing = fire_missing;
  run_missing = run_missing;
  replay_missing = replay_missing;
  as_run = λ net sheet log taken put s taken' put' s' out t out' t' a b c y d z.
      own-answered (replay-law net sheet log) c y 2 ∙ sym (own-answered (run-law net sheet (firings log)) d z 2);
  in_a_row = λ net sheet σ s s' out r out' r' v w x next t a b h f c d y e z.
      let N = petri_net net in
      let ok = accepted-reply net sheet h in
      let (m, g, j) = along-chain net sheet ok σ w x 0 (fresh_kept net sheet ok v w f) (calls-chain net sheet ok w x σ c) in
      let (k, o, u, p) = fired-entry net sheet s s' x next t a d y in
      let (n, i, l, q, w', p') = ran-entry net sheet σ out r out' r' t b e z in
      let there : x.node ≡ n = j.node ∙ same_target _ m n g l in
      let same : k ≡ i = same_target _ k i o (ap (λ (b : ℕ). arc_entry N sheet b t) there ∙ q) in
      p ∙ ap (λ (b : ℕ). plain_index (Some b)) same ∙ sym p';
}
