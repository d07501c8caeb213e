-- The row of a new node, made from the entries of the old node that stands for it. No contract of a public function cites it.
use Rattle.std.specs.Prelude.{ℕ, ◌+◌, ◌*◌, ◌-◌, ◌≤◌, ◌<◌, ◌≡◌, List, Bool, true, false, cond, length, get_or}
use Rattle.std.proofs.Math.Option.{Option, some, map}
use Rattle.table.specs.Table.{Rising}
use Rattle.table.specs.Bisection.{lower_bound}
use Rattle.automaton.specs.Quotient.{minimal}
use Rattle.sequential.specs.Petri.{petri_net}
use Rattle.sequential.specs.Words.{node_count, entry_count, entry_key, entry_value, graph}
use Rattle.graph.specs.Rows.{arcs_start, counts_start}
use Rattle.graph.specs.Readable.{Readable}
use Rattle.encoding.specs.Kept.{number_in}
use Rattle.encoding.specs.declared.Section.{Section}
use Rattle.encoding.specs.declared.Section.TheVariants.{ArcKeys, CountKeys, Numbers, Counts}
use Rattle.minimize.specs.Agree.{row_key, row_width}

-- a section belongs to counts
abbrev pub of_counts : Section → Bool
of_counts ArcKeys = false
of_counts CountKeys = true
of_counts Numbers = false
of_counts Counts = true

-- the first key of the row of new node i, if there are `found` new nodes (§3.5, §3.6)
unfoldable pub new_key : List ℕ → ℕ → Bool → ℕ → ℕ
new_key net found counts i = cond counts (counts_start net found i) (arcs_start net i)

-- the entries of a row of a width that begins at a key: the first one, and how many there are
unfoldable pub run_from : List ℕ → ℕ → ℕ
run_from sheet key = lower_bound sheet 2 (entry_count sheet) key

unfoldable pub run_size : List ℕ → ℕ → ℕ → ℕ
run_size sheet key width = run_from sheet (key + width) - run_from sheet key

-- how many entries node n's row has
unfoldable pub row_size : List ℕ → List ℕ → Bool → ℕ → ℕ
row_size net sheet counts n = run_size sheet (row_key net sheet counts n) (row_width net counts)

-- the word of entry e in a section; in its row the old keys begin at `old`, the new ones at `new`
unfoldable pub entry_word : List ℕ → List ℕ → Section → ℕ → ℕ → ℕ → ℕ
entry_word sheet numbers ArcKeys old new e = new + (entry_key sheet e - old)
entry_word sheet numbers CountKeys old new e = new + (entry_key sheet e - old)
entry_word sheet numbers Numbers old new e = number_in numbers (entry_value sheet e)
entry_word sheet numbers Counts old new e = entry_value sheet e

-- the word of entry from + k
unfoldable pub word_at : (ℕ → ℕ) → ℕ → ℕ → Option ℕ
word_at word from k = some (word (from + k))

-- entry e has such a word
pub record Worded (sheet : List ℕ) (section : Section) (old new e : ℕ) : Type 0 where
  pub whole : length sheet ≡ 2 + 2 * entry_count sheet
  pub within : e < entry_count sheet
  pub above : old ≤ get_or sheet (2 + e) 0
  pub small : new + get_or sheet (2 + e) 0 ≤ 65535
  pub target : section ≡ Numbers → entry_value sheet e < 128

-- new node i, one of `found`, and the old node n that stands for it
pub record NewRow (net sheet numbers : List ℕ) (found n i : ℕ) : Type 0 where
  pub readable : Readable net sheet
  pub size : (minimal (graph (petri_net net) sheet)).nodes ≡ found
  pub few : found ≤ 128
  pub new : i < found
  pub old : n < node_count sheet
  pub arcs : (t : ℕ) → (minimal (graph (petri_net net) sheet)).arc i t ≡ map (number_in numbers) ((graph (petri_net net) sheet).arc n t)
  pub label : (minimal (graph (petri_net net) sheet)).label i ≡ (graph (petri_net net) sheet).label n

-- a row of a width that begins at a key, in words whose keys rise
pub record Keyed (sheet : List ℕ) (key width : ℕ) : Type 0 where
  pub rising : Rising sheet 2 (entry_count sheet)
  pub fits : 2 + entry_count sheet ≤ length sheet
  pub low : key + width ≤ 8224

-- a row as the loop over it sees it: its first old and new key, its first entry, and how many entries there are
pub record Running (net sheet numbers : List ℕ) (found n i : ℕ) (section : Section) (old new from size : ℕ) : Type 0 where
  pub row : NewRow net sheet numbers found n i
  pub old_is : old ≡ row_key net sheet (of_counts section) n
  pub new_is : new ≡ new_key net found (of_counts section) i
  pub from_is : from ≡ run_from sheet (row_key net sheet (of_counts section) n)
  pub size_is : size ≡ row_size net sheet (of_counts section) n
