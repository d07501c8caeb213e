-- Refusals 1 to 9 and 26, of the words of the net and of the schedule. Readable words are those that none of these refuses; readable arcs may have any counts.
use Rattle.refusal.specs.Refusal.{Verdict}
use Rattle.std.specs.Prelude.{◌≡◌, List, Bool, cond, ℕ, ◌+◌, ◌*◌, ◌≤◌, ◌<◌, length, Ok}
use Rattle.std.proofs.Math.Option.{Option}
use Rattle.refusal.specs.Limits.{most_places, most_transitions, most_nodes, most_entries}
use Rattle.refusal.specs.Verdict.{verdict_of, and_then}
use Rattle.refusal.specs.declared.Refusal.{Refusal}
use Rattle.net.specs.Net.{place_count, transition_count}
use Rattle.net.specs.Check.{net_reply}
use Rattle.sequential.specs.Petri.{PetriNet, petri_net}
use Rattle.sequential.specs.Words.{node_count, entry_count, entry_value, arc_keys}
use Rattle.sequential.specs.Checks.{ValuePasses}
use Rattle.sequential.specs.Check.{value_fails, arc_value_fails, words_fault, arc_words_fault}
use Rattle.sequential.specs.Known.{ArcsHold}

-- ---- replies

-- the check of the net, and then that of the schedule's words: §7.54
unfoldable pub words_reply : List ℕ → List ℕ → Verdict
words_reply net sheet = and_then (net_reply net) (verdict_of (words_fault (petri_net net) sheet))

-- the same, but 9 is asked of arcs only
unfoldable pub arcs_reply : List ℕ → List ℕ → Verdict
arcs_reply net sheet = and_then (net_reply net) (verdict_of (arc_words_fault (petri_net net) sheet))

-- ---- both in one definition, for functions that do either: the first argument says whether 9 is asked of counts as well

abbrev pub value_test : Bool → List ℕ → ℕ → ℕ → Bool
value_test counts sheet arcs i = cond counts (value_fails sheet arcs i) (arc_value_fails sheet arcs i)

abbrev pub fault_by : Bool → PetriNet → List ℕ → Option Refusal
fault_by counts N sheet = cond counts (words_fault N sheet) (arc_words_fault N sheet)

abbrev pub reply_by : Bool → List ℕ → List ℕ → Verdict
reply_by counts net sheet = cond counts (words_reply net sheet) (arcs_reply net sheet)

-- the values of the entries between two bounds are at least `low` and below a limit
abbrev pub ValuesLie : List ℕ → ℕ → ℕ → ℕ → ℕ → Type 0
ValuesLie sheet from to low limit = (i : ℕ) → from ≤ i → i < to → (low ≤ entry_value sheet i) × (entry_value sheet i < limit)

-- ---- what is readable

pub record Sizes (net sheet : List ℕ) : Type 0 where
  pub some_place : 1 ≤ place_count net
  pub few_places : place_count net ≤ most_places
  pub some_transition : 1 ≤ transition_count net
  pub few_transitions : transition_count net ≤ most_transitions
  pub some_node : 1 ≤ node_count sheet
  pub few_nodes : node_count sheet ≤ most_nodes
  pub few_entries : entry_count sheet ≤ most_entries
  pub long : length sheet ≡ 2 + 2 * entry_count sheet
  pub few_arcs : node_count sheet * transition_count net ≤ 4096
  pub few_keys : node_count sheet * (transition_count net + place_count net) ≤ 8192

-- 1 to 8 and 26 refuse nothing, and 9 refuses no arc
pub record ArcsReadable (net sheet : List ℕ) : Type 0 where
  pub accepted : net_reply net ≡ Ok tt
  pub sizes : Sizes net sheet
  pub holds : ArcsHold (petri_net net) sheet

-- 1 to 9 and 26 refuse nothing
pub record Readable (net sheet : List ℕ) : Type 0 where
  pub arcs : ArcsReadable net sheet
  pub values : (i : ℕ) → i < entry_count sheet → ValuePasses sheet (arc_keys (petri_net net) sheet) i
