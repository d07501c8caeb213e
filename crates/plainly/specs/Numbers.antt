-- Every number that is spread is one of document 01: what each cell of the tables and of the grid is, by the words of net and schedule (§10.41).
use Rattle.std.specs.Prelude.{ℕ, ◌+◌, ◌-◌, ◌/◌, ◌%◌, ◌≤◌, ◌<◌, ◌≡◌, cond, List, length, get_or, ltb, ℤ, pos, ◌-ℤ◌}
use Rattle.std.proofs.Math.Option
use Rattle.std.proofs.Math.Option.{Option}
use Rattle.scan.specs.Scan.{found_or}
use Rattle.refusal.specs.Limits.{most_count}
use Rattle.table.specs.Table.{Rising}
use Rattle.net.specs.Net.{place_count, transition_count, taken, put, start, capacity}
use Rattle.sequential.specs.Petri.{PetriNet, petri_net}
use Rattle.sequential.specs.Words.{entry_count, entry_value, entry_with_key, arc, count_at}
use Rattle.plainly.specs.declared.Spread.{Spread}

-- ---- the net: cell i of a table is that of transition i / 32 and place i % 32

abbrev pub taken_cell : List ℕ → ℕ → ℕ
taken_cell net i = taken net (i / 32) (i % 32)

-- put − taken, with its sign
abbrev pub change_cell : List ℕ → ℕ → ℤ
change_cell net i = pos (put net (i / 32) (i % 32)) -ℤ pos (taken net (i / 32) (i % 32))

pub record NetSpread (net : List ℕ) (s : Spread) : Type 0 where
  pub places_are : s.places ≡ place_count net
  pub transitions_are : s.transitions ≡ transition_count net
  pub starts_are : (p : ℕ) → p < 32 → get_or s.starts p 0 ≡ start net p
  pub capacities_are : (p : ℕ) → p < 32 → get_or s.capacities p 0 ≡ Option.get_or (capacity net p) 0
  pub taken_is : (i : ℕ) → i < 1024 → get_or s.taken i 0 ≡ taken_cell net i
  pub change_is : (i : ℕ) → i < 1024 → get_or s.change i (pos 0) ≡ change_cell net i

-- ---- the schedule: cell k of the grid is in row k / 64, an arc in the first 32 columns, a count in the others

-- the value of a key plus a number, or 0 if the key is absent
unfoldable pub value_more : List ℕ → ℕ → ℕ → ℕ
value_more sheet more i = entry_value sheet i + more

unfoldable pub value_of : List ℕ → ℕ → ℕ → ℕ
value_of sheet more key = found_or 0 (value_more sheet more) (entry_with_key sheet key)

-- a target as a cell holds it: 1 more, since 0 is no arc
abbrev pub plus_one : ℕ → ℕ
plus_one m = m + 1

abbrev pub arc_code : Option ℕ → ℕ
arc_code o = found_or 0 plus_one o

unfoldable pub cell_of : PetriNet → List ℕ → ℕ → ℕ
cell_of N sheet k = cond (ltb (k % 64) 32) (arc_code (arc N sheet (k / 64) (k % 64))) (count_at N sheet (k / 64) (k % 64 - 32))

pub record GridSpread (net sheet grid : List ℕ) : Type 0 where
  pub long : 8192 ≤ length grid
  pub cells : (k : ℕ) → k < 8192 → get_or grid k 0 ≡ cell_of (petri_net net) sheet k

-- the front of a buffer may have changed, and the words behind it are as they were
pub record FrontAlone (front : ℕ) (before after : List ℕ) : Type 0 where
  pub same_length : length after ≡ length before
  pub past : (k : ℕ) → front ≤ k → get_or after k 0 ≡ get_or before k 0

-- the buffer after spreading: all cells, whatever it held before; the words behind them are as they were
pub record GridCells (net sheet grid grid' : List ℕ) : Type 0 where
  pub spread : GridSpread net sheet grid'
  pub front : FrontAlone 8192 grid grid'

-- what the look-up of a value relies on
pub record Keyed (sheet : List ℕ) : Type 0 where
  pub head : 2 ≤ length sheet
  pub rise : Rising sheet 2 (entry_count sheet)
  pub fit : 2 + entry_count sheet ≤ length sheet
  pub values : (i : ℕ) → i < entry_count sheet → entry_value sheet i ≤ most_count
