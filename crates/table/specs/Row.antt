-- The row of a run of keys, for any words: one walk over the entries, from the one at which bisection ends, as long as their keys are in the run.
-- `row-right` of proofs/Row shows that it meets the entry of each key if the keys rise.
use Rattle.std.specs.Prelude.{ℕ, zero, suc, ◌+◌, ◌*◌, ◌-◌, List, cond, ◌&&◌, length, set, replicate, ltb, leb}
use Rattle.std.proofs.Math.Option.{Option}
use Rattle.scan.specs.Scan.{found_or}
use Rattle.table.specs.Table.{key_at, value_at}
use Rattle.table.specs.Bisection.{lower_bound}

-- an entry as a number: 1 plus its index
abbrev pub section_cell : ℕ → ℕ
section_cell i = i + 1

-- an entry that may be missing, as a number: 0 if it is
abbrev pub entry_code : Option ℕ → ℕ
entry_code o = found_or 0 section_cell o

-- a run of keys: `width` keys from `first` on, but at most 32
module _ (words : List ℕ) (offset first width : ℕ) where
  -- the index of entry i's key in the run, or 32 if the key is outside the run
  unfoldable pub run_place : ℕ → ℕ
  run_place i =
      let key = key_at words offset i in
      cond (leb first key && ltb (key - first) width) (key - first) 32

  -- a walk over entries from i on: the number of each is stored at the index of its key in the run; the first key outside the run ends the walk
  unfoldable pub walk : (ℕ → ℕ) → ℕ → ℕ → List ℕ → List ℕ
  walk told zero i row = row
  walk told (suc left) i row = cond (ltb (run_place i) 32) (walk told left (i + 1) (set row (run_place i) (told i))) row

module _ (words : List ℕ) (offset entries first width : ℕ) where
  unfoldable pub run_row : (ℕ → ℕ) → List ℕ
  run_row told =
      let start = lower_bound words offset entries first in
      walk words offset first width told (entries - start) start (replicate 32 0)

  unfoldable pub entry_row : List ℕ
  entry_row = run_row section_cell

  -- the values of the run, all 0 if the words are too short for keys and values
  unfoldable pub value_row : List ℕ
  value_row = cond (leb (offset + 2 * entries) (length words)) (run_row (value_at words offset entries)) (replicate 32 0)
