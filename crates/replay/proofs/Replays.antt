-- A log that passes is a run: each node that it names is where its firings lead, and what they take and put balances at every place.
use Rattle.std.specs.Prelude.{Ok, Some}
use Rattle.scan.proofs.Basics.{ℕ, zero, suc, ◌+◌, ◌-◌, ◌≤◌, ◌<◌, arith, ◌≡◌, sym, ap, ◌∙◌, none, some, List, get_or}
use Rattle.scan.specs.Scan.{sum}
use Rattle.scan.proofs.Tabulate.{tabulate-at, take-tabulate}
use Rattle.automaton.specs.Automaton.{follow}
use Rattle.automaton.proofs.Automaton.{same_target, arc-transition, follow-lands, follow-allows}
use Rattle.refusal.specs.Checks.{AllPass}
use Rattle.refusal.proofs.Verdicts.{answer-none, then-accepted}
use Rattle.sequential.specs.Petri.{petri_net, initial, fired_count, fire}
use Rattle.sequential.specs.Words.{node_count, entry_value, arc_entry, arc, marking, graph}
use Rattle.sequential.specs.Check.{schedule_reply}
use Rattle.sequential.proofs.Accepted.{accepts, closed}
use Rattle.schedule.specs.Firing.{node_after, last_entry, run_fault}
use Rattle.schedule.proofs.Following.{run-allowed, run-leads, last-firing}
use Rattle.replay.specs.Log.{firing_count, fired_at, logged_at, firings_to, firings, moved_by, moved}
use Rattle.replay.specs.Checks.{leads, NodeReached, replay_checks}
use Rattle.replay.specs.Calls.{replay_verdict}
use Rattle.replay.specs.Tally.{LogHolds, Countable}
use Rattle.replay.proofs.Logs.{replay-tells, leads-none, leads-next}
use Rattle.replay.proofs.Following.{firings-long, firings-at}

-- where the firing at index i is made: at node 0, or at the node logged before it
stood_at : List ℕ → ℕ → ℕ
stood_at log zero = 0
stood_at log (suc i) = logged_at log i

module _ (net sheet log : List ℕ) (ok : replay_verdict net sheet log ≡ Ok tt) where
  pub passed-sheet : schedule_reply net sheet ≡ Ok tt
  unfolding replay_verdict
  passed-sheet = (then-accepted (schedule_reply net sheet) _ ok).0

  pub passed-checks : AllPass (replay_checks (petri_net net) sheet log)
  unfolding replay_verdict
  passed-checks = (replay-tells (petri_net net) sheet log).passes.0 (answer-none _ (then-accepted (schedule_reply net sheet) _ ok).1)

  pub passed-holds : LogHolds log
  passed-holds = let (a, (b, (c, d))) = passed-checks in record { few = b; whole = c }

  pub passed-node : (i : ℕ) → i < firing_count log → NodeReached (petri_net net) sheet log i
  passed-node i l = let (a, (b, (c, (d, u)))) = passed-checks in (d i l).1.0

  stands : (i : ℕ) → i ≤ firing_count log → leads (petri_net net) sheet log i ≡ some (stood_at log i)
  unfolding stood_at
  stands zero l = leads-none (petri_net net) sheet log
  stands (suc i) l = passed-node i l

  -- each firing is by an arc from where it stands
  goes : (i : ℕ) → i < firing_count log → arc (petri_net net) sheet (stood_at log i) (fired_at log i) ≡ some (stood_at log (suc i))
  goes i l = sym (leads-next (petri_net net) sheet log i (stood_at log i) (stands i (omega arith))) ∙ stands (suc i) l

  pub passed-ends : (n : ℕ) × (leads (petri_net net) sheet log (firing_count log) ≡ some n)
  passed-ends = (stood_at log (firing_count log), stands (firing_count log) (omega arith))

  pub passed-run : run_fault (petri_net net) sheet (firings log) ≡ none
  passed-run = let (n, e) = passed-ends in (run-allowed (petri_net net) sheet (firings log)).1 (follow-allows (graph (petri_net net) sheet) 0 n (firings log) e)

  -- the last firing: the node where it is made, the entry of its arc, and where that leads
  pub record LastOfLog (i n k : ℕ) : Type 0 where
    pub before : leads (petri_net net) sheet log i ≡ some n
    pub entry : arc_entry (petri_net net) sheet n (fired_at log i) ≡ some k
    pub named : last_entry (petri_net net) sheet (firings log) ≡ Some k
    pub lands : entry_value sheet k ≡ logged_at log i

  pub last-of-log : (i : ℕ) → firing_count log ≡ suc i → (n : ℕ) × (k : ℕ) × LastOfLog i n k
  unfolding firings_to
  last-of-log i l =
      let N = petri_net net in
      let (k, f) = last-firing N sheet (firings log) passed-run i (firings-long log ∙ l) in
      let end = ap (λ (m : ℕ). leads N sheet log m) l ∙ passed-node i (omega arith) in (
        node_after N sheet (firings log) i,
        k,
        record {
          before = ap (follow (graph N sheet) 0) (sym (take-tabulate (fired_at log) i (firing_count log) (omega arith))) ∙ f.before;
          entry = ap (arc_entry N sheet (node_after N sheet (firings log) i)) (sym (firings-at log i (omega arith))) ∙ f.entry;
          named = f.named;
          lands = f.lands ∙ same_target _ _ _ (run-leads N sheet (firings log) passed-run) end;
        },
      )

  pub countable : Countable net log
  countable = record {
    accepted = (accepts net sheet passed-sheet).net_accepted;
    holds = passed-holds;
    low = λ i l. arc-transition (graph (petri_net net) sheet) (closed net sheet passed-sheet) (stood_at log i) (fired_at log i) (stood_at log (suc i)) (goes i l);
  }

  -- a node that the log stands at
  low : (i : ℕ) → i ≤ firing_count log → stood_at log i < node_count sheet
  low i l = follow-lands (graph (petri_net net) sheet) (closed net sheet passed-sheet) (firings_to log i) 0 (stood_at log i) (closed net sheet passed-sheet).root (stands i l)

  -- after the first n firings, what a place started with and what was put is what it holds and what was taken
  balanced : (p : ℕ) → p < (petri_net net).places → (n : ℕ) → n ≤ firing_count log
      → (petri_net net).start p + sum (moved_by (petri_net net).put log p) n ≡ get_or (marking (petri_net net) sheet (stood_at log n)) p 0 + sum (moved_by (petri_net net).taken log p) n
  unfolding sum stood_at initial moved_by fired_count fire
  balanced p l zero k =
      let s : get_or (marking (petri_net net) sheet 0) p 0 ≡ (petri_net net).start p
      = ap (λ (m : List ℕ). get_or m p 0) (accepts net sheet passed-sheet).schedule.starts ∙ tabulate-at (petri_net net).start 0 (petri_net net).places p l in
      omega arith
  balanced p l (suc n) k =
      let a = balanced p l n (omega arith) in
      let s = (accepts net sheet passed-sheet).schedule in
      let g = goes n k in
      let e = (s.enables (stood_at log n) (fired_at log n) (stood_at log (suc n)) (low n (omega arith)) g).holds p l in
      let f : get_or (marking (petri_net net) sheet (stood_at log (suc n))) p 0
      ≡ get_or (marking (petri_net net) sheet (stood_at log n)) p 0 - (petri_net net).taken (fired_at log n) p + (petri_net net).put (fired_at log n) p
      = ap (λ (m : List ℕ). get_or m p 0) (s.lands (stood_at log n) (fired_at log n) (stood_at log (suc n)) (low n (omega arith)) g) ∙ tabulate-at _ 0 (petri_net net).places p l in
      omega arith

  pub balance : (p : ℕ) → p < (petri_net net).places → (n : ℕ) → leads (petri_net net) sheet log (firing_count log) ≡ some n
      → (petri_net net).start p + moved (petri_net net).put log p ≡ get_or (marking (petri_net net) sheet n) p 0 + moved (petri_net net).taken log p
  unfolding moved
  balance p l n e =
      let q : stood_at log (firing_count log) ≡ n = same_target _ _ _ (stands (firing_count log) (omega arith)) e in
      rw q at (balanced p l (firing_count log) (omega arith))
