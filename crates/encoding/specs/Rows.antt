-- The rows of a graph's words as they are written: the words that a node's entries have in one of the four sections are appended to a buffer.
use Rattle.std.specs.Prelude.{ℕ, ◌+◌, ◌*◌, ◌-◌, ◌≤◌, ◌<◌, ◌≡◌, Bool, List, length, get_or, ltb}
use Rattle.std.proofs.Math.Option.{Option, none, some}
use Rattle.scan.specs.Scan.{when}
use Rattle.scan.specs.Placed.{placed, next_place}
use Rattle.automaton.specs.Automaton.{Automaton}
use Rattle.sequential.specs.Petri.{PetriNet}
use Rattle.encoding.specs.Encoding.{gather, gather_rows, key_of_arc, held, key_of_count, value_of_count}
use Rattle.encoding.specs.declared.Row.{Row}
use Rattle.encoding.specs.declared.Section.{Section}
use Rattle.encoding.specs.declared.Section.TheVariants.{ArcKeys, CountKeys, Numbers, Counts}

-- ---- one row

-- the word of an entry: its key (§3.4); or its cell less 1, which is the target of an arc (§3.5) or the new count of a change (§10.16); or its cell, which
-- is a count (§3.6)
abbrev pub word_of : Section → ℕ → ℕ → ℕ
word_of ArcKeys key cell = key
word_of CountKeys key cell = key
word_of Numbers key cell = cell - 1
word_of Counts key cell = cell

-- column c has an entry
unfoldable pub filled_at : List ℕ → ℕ → Bool
filled_at cells c = ltb 0 (get_or cells c 0)

-- the word of column c, if the row's keys begin at a first one
unfoldable pub column_word : Section → ℕ → List ℕ → ℕ → Option ℕ
column_word section first cells c = when (filled_at cells c) (word_of section (first + c) (get_or cells c 0))

unfoldable pub row_words : Row → Section → List ℕ
row_words row section = gather (column_word section row.first row.cells) 32

-- words appended to a buffer from an index on: the index after them, and what the buffer holds then
pub record Appended (out : List ℕ) (at : ℕ) (words : List ℕ) (r : ℕ) (out' : List ℕ) : Type 0 where
  pub behind : r ≡ next_place (length out) at words
  pub held : out' ≡ placed out at words

-- ---- the rows of an automaton

-- the cell of an arc: 1 plus its target, or 0 if there is none
abbrev pub arc_code : Option ℕ → ℕ
arc_code none = 0
arc_code (some m) = m + 1

module _ (N : PetriNet) (A : Automaton) where
  abbrev pub width_of : Section → ℕ
  width_of ArcKeys = N.transitions
  width_of CountKeys = N.places
  width_of Numbers = N.transitions
  width_of Counts = N.places

  -- the key of node n's first column: §3.5, §3.6
  abbrev pub first_key : Section → ℕ → ℕ
  first_key ArcKeys n = n * N.transitions
  first_key CountKeys n = A.nodes * N.transitions + n * N.places
  first_key Numbers n = n * N.transitions
  first_key Counts n = A.nodes * N.transitions + n * N.places

  -- the cell of node n at column c, and the word that it gives
  abbrev pub section_cell : Section → ℕ → ℕ → ℕ
  section_cell ArcKeys n c = arc_code (A.arc n c)
  section_cell CountKeys n c = held N A n c
  section_cell Numbers n c = arc_code (A.arc n c)
  section_cell Counts n c = held N A n c

  abbrev pub cell_of : Section → ℕ → ℕ → Option ℕ
  cell_of ArcKeys n c = key_of_arc N A n c
  cell_of CountKeys n c = key_of_count N A n c
  cell_of Numbers n c = A.arc n c
  cell_of Counts n c = value_of_count N A n c

  -- a row has the entries of node n
  pub record RowOf (section : Section) (n : ℕ) (row : Row) : Type 0 where
    pub first : row.first ≡ first_key section n
    pub entry : (c : ℕ) → c < width_of section → get_or row.cells c 0 ≡ section_cell section n c
    pub past : (c : ℕ) → width_of section ≤ c → c < 32 → get_or row.cells c 0 ≡ 0

  -- the first rows of a section, and the whole section
  unfoldable pub section_to : Section → ℕ → List ℕ
  section_to section n = gather_rows (cell_of section) (width_of section) n

  unfoldable pub section_of : Section → List ℕ
  section_of section = section_to section A.nodes
