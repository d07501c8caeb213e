-- What is promised of a node's rows and of the look-up of an arc, as statements on words that pass 1 to 9 and 26. proofs/Demands has the terms.
use Rattle.std.specs.Prelude.{ℕ, ◌<◌, ◌≡◌, List}
use Rattle.std.proofs.Math.Option.{map}
use Rattle.scan.specs.Scan.{found_or, tabulate}
use Rattle.refusal.specs.Limits.{most_places, most_transitions}
use Rattle.refusal.specs.Checks.{AllPass}
use Rattle.net.specs.Checks.{IsNet}
use Rattle.sequential.specs.Petri.{petri_net}
use Rattle.table.specs.Bisection.{found_of}
use Rattle.sequential.specs.Words.{node_count, entry_value, arc_entry, arc, count_at}
use Rattle.sequential.specs.Checks.{arc_word_checks, WordsPass}
use Rattle.sequential.specs.Check.{arc_count}
use Rattle.graph.specs.Rows.{count_entry, arc_entry_code, count_entry_code, marking_row, arc_entry_row, count_entry_row, arc_count_reply}
use Rattle.graph.specs.LookUp.{arc_look_up}

-- what each place holds at a node, 0 from P on; and the entries of the node's arcs and counts, each as 1 plus its index, or 0 if there is none
pub record RowsRight (net sheet : List ℕ) (n : ℕ) : Type 0 where
  pub marking : marking_row net sheet n ≡ tabulate (count_at (petri_net net) sheet n) most_places
  pub arcs : arc_entry_row net sheet n ≡ tabulate (arc_entry_code (petri_net net) sheet n) most_transitions
  pub counts : count_entry_row net sheet n ≡ tabulate (count_entry_code (petri_net net) sheet n) most_places
  -- the value of an arc's entry is its target, that of a count's the count
  pub target : (t : ℕ) → arc (petri_net net) sheet n t ≡ map (entry_value sheet) (arc_entry (petri_net net) sheet n t)
  pub held : (p : ℕ) → count_at (petri_net net) sheet n p ≡ found_or 0 (entry_value sheet) (count_entry (petri_net net) sheet n p)

abbrev pub RowsMean : Type 0
RowsMean = (net sheet : List ℕ) (n : ℕ) → IsNet net → WordsPass (petri_net net) sheet → n < node_count sheet → RowsRight net sheet n

-- the answer to how many arcs there are is the number of entries that are arcs, whatever the counts are
abbrev pub ArcCountMeans : Type 0
ArcCountMeans = (net sheet : List ℕ) → IsNet net → AllPass (arc_word_checks (petri_net net) sheet) → arc_count_reply net sheet ≡ arc_count (petri_net net) sheet

-- the look-up of an arc finds its entry if there is one
abbrev pub ArcLookUpMeans : Type 0
ArcLookUpMeans = (net sheet : List ℕ) (n t : ℕ) → IsNet net → WordsPass (petri_net net) sheet → arc_look_up net sheet n t ≡ found_of (arc_entry (petri_net net) sheet n t)
