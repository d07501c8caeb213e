-- A schedule is accepted exactly if all checks pass, and so exactly if the net's words are right, its own words are right, and its graph is a sequential schedule.
use Rattle.std.specs.Prelude.{Ok}
use Rattle.scan.proofs.Basics.{ℕ, ◌<◌, arith, ◌≡◌, refl, ◌↔◌, some, List, ◌++◌}
use Rattle.automaton.specs.Automaton.{Closed}
use Rattle.refusal.specs.Checks.{AllPass}
use Rattle.refusal.proofs.Checks.{Tells}
use Rattle.refusal.proofs.Judges.{Judges, judges-found, judges-then, tells-append, pass-append}
use Rattle.refusal.specs.Verdict.{verdict_of, and_then}
use Rattle.net.specs.Net.{transition_count}
use Rattle.net.specs.Checks.{net_checks}
use Rattle.net.specs.Check.{net_reply}
use Rattle.net.proofs.Checks.{net-judged}
use Rattle.net.proofs.Laws.{sizes}
use Rattle.sequential.specs.Petri.{PetriNet, petri_net, Enabled}
use Rattle.sequential.specs.Words.{node_count, entry_count, entry_value, arc_node, arc_transition, arc, marking, graph, entry_key, arc_keys}
use Rattle.sequential.specs.Schedule.{IsSchedule}
use Rattle.sequential.specs.Checks.{word_checks, graph_checks, sheet_checks}
use Rattle.sequential.specs.Check.{schedule_fault, schedule_reply, task_reply}
use Rattle.sequential.specs.Only.{only}
use Rattle.sequential.specs.Known.{ArcsHold, WordsHold, AcceptsAs, Accepts}
use Rattle.sequential.proofs.Words.{words-tell, words-hold, words_pass}
use Rattle.sequential.proofs.Entries.{arc-entry, entry-arc, entry-node, graph-closed}
use Rattle.sequential.proofs.Choices.{choice-refl}
use Rattle.sequential.proofs.Faults.{start-marking, is_arc↔, graph-tells}

-- ---- the clauses on the words are those on the graph

module _ (N : PetriNet) (sheet : List ℕ) (T : 0 < N.transitions) (w : ArcsHold N sheet) where
  pub passes-schedule : AllPass (graph_checks N sheet) → IsSchedule N (graph N sheet)
  passes-schedule (a, (b, (c, (d, (e, (f, u)))))) = record {
    starts = (start-marking N sheet w.shape.some_node).1 (λ p l. (a p l).0);
    choices = λ n l. (b n l).1.0;
    root_awaits = (c 0 (omega arith)).0;
    enables = λ n t m l h.
        let (i, x) = arc-entry N sheet T w n t m h in
        let a = (is_arc↔ N sheet i).0 x.arc in
        record {
          holds = rw (x.node, x.transition) at ((d i x.entry).0 a);
          room = rw (x.node, x.transition) at ((d i x.entry).1.0 a);
        };
    lands = λ n t m l h.
        let (i, x) = arc-entry N sheet T w n t m h in
        rw (x.node, x.transition, x.target) at ((d i x.entry).1.1.0 ((is_arc↔ N sheet i).0 x.arc));
    reached = λ n l. (e n l).0;
    returns = λ n l. (f n l).0;
  }

  pub schedule-passes : IsSchedule N (graph N sheet) → AllPass (graph_checks N sheet)
  schedule-passes s = (
    λ p l. ((start-marking N sheet w.shape.some_node).0 s.starts p l, tt),
    (
      λ n l. (let (t, (k, i), h) = s.choices n l in (t, (h t k).1 (choice-refl N t)), (s.choices n l, tt)),
      (
        λ n l. let z : n ≡ 0 = omega arith in rw z (s.root_awaits, tt),
        (
          λ i l. (λ a. (enables i l a).holds, (λ a. (enables i l a).room, (λ a. s.lands _ _ _ (node i l a) (at i l a), tt))),
          (
            λ n l. (s.reached n l, tt),
            (λ n l. (s.returns n l, tt), tt),
          ),
        ),
      ),
    ),
  )
    where
      node : (i : ℕ) → i < entry_count sheet → entry_key sheet i < arc_keys N sheet → arc_node N sheet i < node_count sheet
      node i l a = entry-node N sheet T w i l ((is_arc↔ N sheet i).1 a)

      at : (i : ℕ) → i < entry_count sheet → entry_key sheet i < arc_keys N sheet → arc N sheet (arc_node N sheet i) (arc_transition N sheet i) ≡ some (entry_value sheet i)
      at i l a = entry-arc N sheet T w i l ((is_arc↔ N sheet i).1 a)

      enables : (i : ℕ) → i < entry_count sheet → entry_key sheet i < arc_keys N sheet → Enabled N (marking N sheet (arc_node N sheet i)) (arc_transition N sheet i)
      enables i l a = s.enables _ _ _ (node i l a) (at i l a)

-- ---- the verdict

module _ (N : PetriNet) (sheet : List ℕ) (T : 0 < N.transitions) where
  pub sheet-tells : Tells (schedule_fault N sheet) (sheet_checks N sheet)
  unfolding schedule_fault
  sheet-tells = tells-append _ _ (word_checks N sheet) (graph_checks N sheet) (words-tell N sheet) (λ p. graph-tells N sheet T (words-hold N sheet p).arcs)

  pub sheet-schedule : AllPass (sheet_checks N sheet) ↔ (WordsHold N sheet × IsSchedule N (graph N sheet))
  sheet-schedule =
      let (f, g) = pass-append (word_checks N sheet) (graph_checks N sheet) in (
        λ p. let (a, b) = f p in let w = words-hold N sheet a in (w, passes-schedule N sheet T w.arcs b),
        λ (w, s). g (words_pass N sheet w, schedule-passes N sheet T w.arcs s),
      )

-- as a schedule of N, whose transitions have the numbers of the net's
module _ (N : PetriNet) (net sheet : List ℕ) (same : N.transitions ≡ transition_count net) where
  some_number : net_reply net ≡ Ok tt → 0 < N.transitions
  some_number h = rw same (sizes net h).some_transition

  judged-as : Judges (and_then (net_reply net) (verdict_of (schedule_fault N sheet))) (net_checks net ++ sheet_checks N sheet)
  judged-as =
      judges-then (net_reply net) _ (net_checks net) (sheet_checks N sheet) (net-judged net)
      (λ p. judges-found _ (sheet_checks N sheet) (sheet-tells N sheet (some_number ((net-judged net).accepts.1 p))))

  accepted-as : (and_then (net_reply net) (verdict_of (schedule_fault N sheet)) ≡ Ok tt) ↔ AcceptsAs N net sheet
  accepted-as = (
    λ h. let (a, b) = (pass-append (net_checks net) (sheet_checks N sheet)).0 (judged-as.accepts.0 h) in
        let n = (net-judged net).accepts.1 a in
        let (w, s) = (sheet-schedule N sheet (some_number n)).0 b in
        record { net_accepted = n; words = w; schedule = s },
    λ a. judged-as.accepts.1 ((pass-append (net_checks net) (sheet_checks N sheet)).1
        ((net-judged net).accepts.0 a.net_accepted, (sheet-schedule N sheet (some_number a.net_accepted)).1 (a.words, a.schedule))),
  )

module _ (net sheet : List ℕ) where
  pub schedule-judged : Judges (schedule_reply net sheet) (net_checks net ++ sheet_checks (petri_net net) sheet)
  unfolding schedule_reply
  schedule-judged = judged-as (petri_net net) net sheet refl

  pub accepted-exactly : (schedule_reply net sheet ≡ Ok tt) ↔ Accepts net sheet
  unfolding schedule_reply
  accepted-exactly = accepted-as (petri_net net) net sheet refl

-- ---- of a schedule of the net with one source alone

module _ (net : List ℕ) (s : ℕ) (sheet : List ℕ) where
  pub task-judged : Judges (task_reply net s sheet) (net_checks net ++ sheet_checks (only (petri_net net) s) sheet)
  unfolding task_reply
  task-judged = judged-as (only (petri_net net) s) net sheet refl

-- ---- an accepted schedule

module _ (net sheet : List ℕ) (h : schedule_reply net sheet ≡ Ok tt) where
  pub accepts : Accepts net sheet
  accepts = (accepted-exactly net sheet).0 h

  pub some_transition : 0 < (petri_net net).transitions
  some_transition = (sizes net accepts.net_accepted).some_transition

  pub closed : Closed (graph (petri_net net) sheet)
  closed = graph-closed (petri_net net) sheet some_transition accepts.words.arcs
