-- What is known after the checks, for the functions that come after them and for proofs. No promise cites it.
use Rattle.std.specs.Prelude.{ℕ, ◌+◌, ◌*◌, ◌≤◌, ◌<◌, ◌≡◌, List, length, Ok}
use Rattle.table.specs.Table.{KeyPasses}
use Rattle.refusal.specs.Limits.{most_nodes, most_entries}
use Rattle.net.specs.Check.{net_reply}
use Rattle.sequential.specs.Petri.{PetriNet, petri_net}
use Rattle.sequential.specs.Words.{node_count, entry_count, arc_keys, key_limit, graph}
use Rattle.sequential.specs.Schedule.{IsSchedule}
use Rattle.sequential.specs.Checks.{ArcValuePasses, ValuePasses}

-- 6 and 7 refuse nothing
pub record ShapePasses (sheet : List ℕ) : Type 0 where
  pub some_node : 1 ≤ node_count sheet
  pub few_nodes : node_count sheet ≤ most_nodes
  pub few_entries : entry_count sheet ≤ most_entries
  pub whole : length sheet ≡ 2 + 2 * entry_count sheet

-- 6 to 8 refuse nothing, and 9 refuses no arc
pub record ArcsHold (N : PetriNet) (sheet : List ℕ) : Type 0 where
  pub shape : ShapePasses sheet
  pub keys : (i : ℕ) → i < entry_count sheet → KeyPasses sheet 2 (key_limit N sheet) i
  pub targets : (i : ℕ) → i < entry_count sheet → ArcValuePasses sheet (arc_keys N sheet) i

-- 6 to 9 refuse nothing
pub record WordsHold (N : PetriNet) (sheet : List ℕ) : Type 0 where
  pub arcs : ArcsHold N sheet
  pub values : (i : ℕ) → i < entry_count sheet → ValuePasses sheet (arc_keys N sheet) i

-- 1 to 17, 26 and 27 refuse nothing, if the words are read as a schedule of N
pub record AcceptsAs (N : PetriNet) (net sheet : List ℕ) : Type 0 where
  pub net_accepted : net_reply net ≡ Ok tt
  pub words : WordsHold N sheet
  pub schedule : IsSchedule N (graph N sheet)

-- the same with the whole net
abbrev pub Accepts : List ℕ → List ℕ → Type 0
Accepts net sheet = AcceptsAs (petri_net net) net sheet
