-- Following a log turn by turn: what is known after i firings, one firing more, and the firings at which it ends.
use Rattle.std.specs.Prelude.{Err, None, Ok, Some}
use Rattle.refusal.specs.declared.Reason.TheVariants.{NotOffered, WrongNode}
use Rattle.scan.proofs.Basics.{ℕ, ◌+◌, ◌≤◌, ◌<◌, add-one, arith, ◌≡◌, refl, sym, ap, ◌∙◌, none, some, List, length, get_or}
use Rattle.scan.proofs.Tabulate.{tabulate-length, tabulate-at}
use Rattle.scan.specs.Scan.{first}
use Rattle.scan.proofs.First.{first-none, first_more, first-hit}
use Rattle.refusal.specs.Refusal.{refusal}
use Rattle.refusal.specs.Verdict.{verdict_of}
use Rattle.refusal.specs.declared.Reason.{Reason}
use Rattle.refusal.specs.declared.Position.TheVariants.{Record}
use Rattle.sequential.specs.Petri.{petri_net}
use Rattle.sequential.specs.Words.{entry_value, arc_entry}
use Rattle.graph.specs.Readable.{ArcsReadable}
use Rattle.graph.specs.LookUp.{arc_look_up}
use Rattle.refusal.specs.Index.{index_from, Index}
use Rattle.schedule.specs.Firing.{node_after, entry_after}
use Rattle.schedule.proofs.Walks.{entry-fits, after_none, after_more, entry-none, entry_more}
use Rattle.graph.proofs.LookUp.{arc-found, arc-missing}
use Rattle.replay.specs.Log.{firing_count, fired_at, logged_at, firings_to, firings}
use Rattle.replay.specs.Checks.{leads}
use Rattle.replay.specs.Tests.{firing_fault}
use Rattle.replay.specs.Calls.{LogFollowed}
use Rattle.replay.specs.Tally.{LogHolds}
use Rattle.replay.proofs.Logs.{leads-none, leads-more, firing-stops, node-differs, firing-passes}

-- the log's transitions, as a run has them
module _ (log : List ℕ) where
  pub firings-long : length (firings log) ≡ firing_count log
  unfolding firings_to
  firings-long = tabulate-length (fired_at log) (firing_count log)

  pub firings-at : (i : ℕ) → i < firing_count log → get_or (firings log) i 0 ≡ fired_at log i
  unfolding firings_to
  firings-at i l = tabulate-at (fired_at log) 0 (firing_count log) i l

-- the first i of n firings pass, and lead to a node, the last by an entry
pub record Along (net sheet log : List ℕ) (n node : ℕ) (entry : Index) (i : ℕ) : Type 0 where
  pub readable : ArcsReadable net sheet
  pub holds : LogHolds log
  pub all : n ≡ firing_count log
  pub within : i ≤ n
  pub at_node : leads (petri_net net) sheet log i ≡ some node
  pub passed : first (firing_fault (petri_net net) sheet log) i ≡ none
  pub as_run : node ≡ node_after (petri_net net) sheet (firings log) i
  pub by-entry : entry ≡ index_from (entry_after (petri_net net) sheet (firings log) i)

pub sets-out : {net sheet log : List ℕ} → ArcsReadable net sheet → LogHolds log → Along net sheet log (get_or log 0 0) 0 None 0
unfolding firing_count
sets-out {net = net} {sheet = sheet} {log = log} r h = record {
  readable = r;
  holds = h;
  all = refl;
  within = omega arith;
  at_node = leads-none (petri_net net) sheet log;
  passed = first-none _;
  as_run = after_none (petri_net net) sheet (firings log);
  by-entry = entry-none (petri_net net) sheet (firings log);
}

module _ {net sheet log : List ℕ} {n node : ℕ} {entry : Index} {i : ℕ} (w : Along net sheet log n node entry i) where
  -- all are passed
  pub arrives : n ≤ i → LogFollowed (petri_net net) sheet log (Ok entry)
  arrives l =
      let q : i ≡ firing_count log = omega (arith, w.all, w.within) in
      record {
        reply = ap verdict_of (sym (rw q at w.passed));
        entry = λ e h. let same : entry ≡ e = cc h in sym same ∙ w.by-entry ∙ ap (λ (x : ℕ). index_from (entry_after (petri_net net) sheet (firings log) x)) (q ∙ sym (firings-long log));
      }

  module _ (l : i < n) where
    stopped : (reason : Reason) → firing_fault (petri_net net) sheet log i ≡ some (refusal reason (Record i))
        → LogFollowed (petri_net net) sheet log (Err (refusal reason (Record i)))
    stopped reason f = record {
      reply = ap verdict_of (sym (first-hit _ i _ w.passed f (firing_count log) (omega (arith, w.all))));
      entry = λ e h. cc h;
    }

    pub not-offered : arc_look_up net sheet node (get_or log (1 + i) 0) ≡ None → LogFollowed (petri_net net) sheet log (Err (refusal NotOffered (Record i)))
    not-offered h = stopped NotOffered (firing-stops (petri_net net) sheet log i node w.at_node (unfold fired_at in (arc-missing net sheet w.readable node _ h)))

    module _ {k m : ℕ} (h : arc_look_up net sheet node (get_or log (1 + i) 0) ≡ Some k) (e : m ≡ entry_value sheet k) where
      its-entry : arc_entry (petri_net net) sheet node (fired_at log i) ≡ some k
      unfolding fired_at
      its-entry = arc-found net sheet w.readable node _ k h

      its-entry-run : arc_entry (petri_net net) sheet node (get_or (firings log) i 0) ≡ some k
      its-entry-run = rw (firings-at log i (omega (arith, w.all))) its-entry

      pub fits : k < 4096
      fits = entry-fits (petri_net net) sheet node (fired_at log i) w.readable.holds k its-entry

      logged : get_or log (1 + n + i) 0 ≡ logged_at log i
      unfolding logged_at
      logged = ap (λ (x : ℕ). get_or log (1 + x + i) 0) w.all

      pub other-node : (get_or log (1 + n + i) 0 ≡ m → ⊥) → LogFollowed (petri_net net) sheet log (Err (refusal WrongNode (Record i)))
      other-node d = stopped WrongNode (node-differs (petri_net net) sheet log i node w.at_node k its-entry (λ q. d (logged ∙ q ∙ sym e)))

      pub goes_on : get_or log (1 + n + i) 0 ≡ m → Along net sheet log n m (Some k) (i + 1)
      goes_on q = record {
        readable = w.readable;
        holds = w.holds;
        all = w.all;
        within = omega arith;
        at_node = rw (add-one, e) (leads-more (petri_net net) sheet log i node w.at_node k its-entry);
        passed = first_more _ i w.passed (firing-passes (petri_net net) sheet log i node w.at_node k its-entry (sym logged ∙ q ∙ e));
        as_run = e ∙ after_more (petri_net net) sheet (firings log) i node w.as_run k its-entry-run;
        by-entry = entry_more (petri_net net) sheet (firings log) i node w.as_run k its-entry-run;
      }
