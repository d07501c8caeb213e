-- The words that are written: the counts of the mended schedule and the list of changes, row by row. No contract of a public function cites it.
use Rattle.std.specs.Prelude.{ℕ, zero, suc, ◌+◌, cond, List, [], ◌++◌, length, get_or, eqb}
use Rattle.scan.specs.Scan.{tabulate}
use Rattle.refusal.specs.Limits.{most_places}
use Rattle.sequential.specs.Petri.{petri_net}
use Rattle.sequential.specs.Words.{node_count}
use Rattle.sequential.specs.Check.{arc_count}
use Rattle.graph.specs.Rows.{counts_start, marking_row}
use Rattle.encoding.specs.Rows.{row_words}
use Rattle.encoding.specs.declared.Row.{Row}
use Rattle.encoding.specs.declared.Section.{Section}
use Rattle.encoding.specs.declared.Section.TheVariants.{CountKeys}
use Rattle.mend.specs.Rows.{row_of}
use Rattle.mend.specs.declared.writer.Part.{Part}
use Rattle.mend.specs.declared.writer.Part.TheVariants.{Counts, Changes}

-- the words from an index on
unfoldable pub copied : List ℕ → ℕ → ℕ → ℕ
copied words from i = get_or words (from + i) 0

-- ---- a row as the code has it: for each place a number, which is above 0 exactly if there is an entry

-- 1 more than a count that changes, 0 for one that does not
unfoldable pub changed_number : ℕ → ℕ → ℕ
changed_number new given = cond (eqb new given) 0 (new + 1)

unfoldable pub changed_cell : List ℕ → List ℕ → ℕ → ℕ
changed_cell row given p = changed_number (get_or row p 0) (get_or given p 0)

module _ (net sheet : List ℕ) where
  -- the row of node n in a part: keys of counts follow those of all arcs (§3.6), keys of changes begin at 0 (§10.16)
  abbrev pub part_row : Part → ℕ → Row
  part_row Counts n = record { first = counts_start net (node_count sheet) n; cells = row_of (petri_net net) sheet n }
  part_row Changes n = record {
    first = counts_start net 0 n;
    cells = tabulate (changed_cell (row_of (petri_net net) sheet n) (marking_row net sheet n)) most_places;
  }

  -- ---- the parts, their keys or their values

  unfoldable pub part_to : Part → Section → ℕ → List ℕ
  part_to part section zero = []
  part_to part section (suc n) = part_to part section n ++ row_words (part_row part n) section

  abbrev pub part_of : Part → Section → List ℕ
  part_of part section = part_to part section (node_count sheet)

  -- the keys of the mended schedule, or its values; those of the arcs are copied from an index of the words on
  unfoldable pub half_of : ℕ → Section → List ℕ
  half_of from section = tabulate (copied sheet from) (arc_count (petri_net net) sheet) ++ part_of Counts section

  -- how many entries the mended schedule has: the arcs, and the counts that are not 0
  unfoldable pub entries_of : ℕ
  entries_of = arc_count (petri_net net) sheet + length (part_of Counts CountKeys)
