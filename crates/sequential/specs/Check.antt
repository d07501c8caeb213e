-- The check of a schedule as a computation: for each clause of `sheet_checks` a test that it fails, and what these tests find.
use Rattle.refusal.specs.declared.Reason.TheVariants.{ScheduleOrder, ScheduleValue}
use Rattle.std.specs.Prelude.{ℕ, ◌+◌, ◌*◌, ◌-◌, List, [], ◌∷◌, ◌++◌, Bool, cond, not, ◌&&◌, ◌||◌, length, ltb, leb, eqb}
use Rattle.std.proofs.Math.Option.{Option}
use Rattle.scan.specs.Scan.{or_else, when, all, count}
use Rattle.table.specs.Keys.{key_fails}
use Rattle.automaton.specs.Reach.{reached_in, leads_in}
use Rattle.refusal.specs.Limits.{most_nodes, most_entries, most_count}
use Rattle.refusal.specs.Verdict.{verdict_of, and_then}
use Rattle.refusal.specs.Refusal.{refusal, Verdict}
use Rattle.refusal.specs.Finding.{Tests, asked, line_finds, finding}
use Rattle.refusal.specs.declared.Position.TheVariants.{Entry}
use Rattle.refusal.specs.declared.Refusal.{Refusal}
use Rattle.net.specs.Check.{net_reply}
use Rattle.sequential.specs.Petri.{PetriNet, petri_net, fired_count}
use Rattle.sequential.specs.Words.{node_count, entry_count, entry_key, entry_value, arc_keys, key_limit, marking, graph, is_arc, arc_node, arc_transition, count_at}
use Rattle.sequential.specs.Tests.{holds_taken, has_room, is_await, offers_some, offers_one_choice_set}
use Rattle.sequential.specs.Only.{only}
use Rattle.sequential.specs.Checks.{shape_checks, word_checks, arc_word_checks, graph_checks}

-- ---- the words

-- §3.2, with the limits of §1.4
unfoldable pub sizes_pass : ℕ → ℕ → Bool
sizes_pass v k = leb 1 v && (leb v most_nodes && leb k most_entries)

abbrev pub shape_tests : List ℕ → List Tests
shape_tests sheet =
    asked (ltb (length sheet) 2)
    ∷ asked (not (sizes_pass (node_count sheet) (entry_count sheet)))
    ∷ asked (not (eqb (length sheet) (2 + 2 * entry_count sheet)))
    ∷ []

-- §3.5
unfoldable pub target_fails : ℕ → ℕ → Bool
target_fails nodes value = leb nodes value

-- §3.6, with the limit of §1.5
unfoldable pub count_fails : ℕ → Bool
count_fails value = eqb value 0 || ltb most_count value

-- the value of an entry fails; 0 is right only for an arc: §3.8
unfoldable pub value_fails : List ℕ → ℕ → ℕ → Bool
value_fails sheet arcs i = cond (ltb (entry_key sheet i) arcs) (target_fails (node_count sheet) (entry_value sheet i)) (count_fails (entry_value sheet i))

-- the same, but asked of arcs only: a count never fails
unfoldable pub arc_value_fails : List ℕ → ℕ → ℕ → Bool
arc_value_fails sheet arcs i = ltb (entry_key sheet i) arcs && target_fails (node_count sheet) (entry_value sheet i)

-- 6 and 7
unfoldable pub shape_fault : List ℕ → Option Refusal
shape_fault sheet = finding (shape_checks sheet) (shape_tests sheet)

-- 8 and 9 at one entry, given the test of its value
unfoldable pub entry_fault : List ℕ → ℕ → (ℕ → Bool) → ℕ → Option Refusal
entry_fault sheet limit fails i = or_else (when (key_fails sheet 2 limit i) (refusal ScheduleOrder (Entry i))) (when (fails i) (refusal ScheduleValue (Entry i)))

module _ (N : PetriNet) (sheet : List ℕ) where
  -- the tests of the words, given the test of an entry's value
  abbrev pub word_tests : (ℕ → Bool) → List Tests
  word_tests fails = shape_tests sheet ++ ((key_fails sheet 2 (key_limit N sheet) ∷ fails ∷ []) ∷ [])

  -- 6 to 9, in the order of §7.56
  unfoldable pub words_fault : Option Refusal
  words_fault = finding (word_checks N sheet) (word_tests (value_fails sheet (arc_keys N sheet)))

  -- 6 to 9, with 9 asked of arcs only
  unfoldable pub arc_words_fault : Option Refusal
  arc_words_fault = finding (arc_word_checks N sheet) (word_tests (arc_value_fails sheet (arc_keys N sheet)))

  -- ---- the graph

  -- §6.5
  unfoldable pub arc_holds : ℕ → Bool
  arc_holds i = holds_taken N (marking N sheet (arc_node N sheet i)) (arc_transition N sheet i)

  unfoldable pub arc_has_room : ℕ → Bool
  arc_has_room i = has_room N (marking N sheet (arc_node N sheet i)) (arc_transition N sheet i)

  -- the target holds what firing gives: §6.6
  unfoldable pub lands_at : ℕ → ℕ → Bool
  lands_at i p = eqb (count_at N sheet (entry_value sheet i) p) (fired_count N (marking N sheet (arc_node N sheet i)) (arc_transition N sheet i) p)

  unfoldable pub arc_lands : ℕ → Bool
  arc_lands i = all (lands_at i) N.places

  -- §7.10 to §7.17 and §7.27, in the order of §7.57
  abbrev pub graph_tests : List Tests
  graph_tests =
      ((λ p. not (eqb (count_at N sheet 0 p) (N.start p))) ∷ [])
      ∷ ((λ n. not (offers_some N (graph N sheet) n)) ∷ (λ n. not (offers_one_choice_set N (graph N sheet) n)) ∷ [])
      ∷ ((λ n. not (is_await N (graph N sheet) n)) ∷ [])
      ∷ ((λ i. is_arc N sheet i && not (arc_holds i)) ∷ (λ i. is_arc N sheet i && not (arc_has_room i)) ∷ (λ i. is_arc N sheet i && not (arc_lands i)) ∷ [])
      -- V - 1 arcs are enough for both: §6.9
      ∷ ((λ n. not (reached_in (graph N sheet) (node_count sheet - 1) n)) ∷ [])
      ∷ ((λ n. not (leads_in (graph N sheet) (is_await N (graph N sheet)) (node_count sheet - 1) n)) ∷ [])
      ∷ []

  -- what each line of `graph_tests` finds at one place, node or entry
  unfoldable pub start_fault : ℕ → Option Refusal
  start_fault p = line_finds (graph_checks N sheet) graph_tests 0 p

  unfoldable pub node_fault : ℕ → Option Refusal
  node_fault n = line_finds (graph_checks N sheet) graph_tests 1 n

  unfoldable pub root_fault : Option Refusal
  root_fault = line_finds (graph_checks N sheet) graph_tests 2 0

  unfoldable pub arc_fault : ℕ → Option Refusal
  arc_fault i = line_finds (graph_checks N sheet) graph_tests 3 i

  unfoldable pub reach_fault : ℕ → Option Refusal
  reach_fault n = line_finds (graph_checks N sheet) graph_tests 4 n

  unfoldable pub return_fault : ℕ → Option Refusal
  return_fault n = line_finds (graph_checks N sheet) graph_tests 5 n

  -- 10 to 17, with 27
  unfoldable pub graph_fault : Option Refusal
  graph_fault = finding (graph_checks N sheet) graph_tests

  -- 6 to 17, with 27
  unfoldable pub schedule_fault : Option Refusal
  schedule_fault = or_else words_fault graph_fault

  -- ---- the numbers of an accepted schedule: §10.3

  unfoldable pub arc_count : ℕ
  arc_count = count (is_arc N sheet) (entry_count sheet)

  unfoldable pub await_count : ℕ
  await_count = count (is_await N (graph N sheet)) (node_count sheet)

-- 1 to 17, with 26 and 27: the net, and then the schedule (§7.54)
unfoldable pub schedule_reply : List ℕ → List ℕ → Verdict
schedule_reply net sheet = and_then (net_reply net) (verdict_of (schedule_fault (petri_net net) sheet))

-- the same for the net with one source left: an arc by a removed source is refused by 12
unfoldable pub task_reply : List ℕ → ℕ → List ℕ → Verdict
task_reply net s sheet = and_then (net_reply net) (verdict_of (schedule_fault (only (petri_net net) s) sheet))
