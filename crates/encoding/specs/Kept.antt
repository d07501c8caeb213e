-- Nodes of a graph that are kept and get new numbers: the automaton that they form, and their arcs as the cells of a row.
use Rattle.std.specs.Prelude.{ℕ, zero, suc, ◌+◌, ◌<◌, ◌≡◌, List, get_or}
use Rattle.std.proofs.Math.Option.{map}
use Rattle.scan.specs.Scan.{tabulate}
use Rattle.automaton.specs.Automaton.{Automaton}
use Rattle.sequential.specs.Words.{entry_value}
use Rattle.graph.specs.Rows.{arc_entry_row}

-- the number that a table has for node n
unfoldable pub number_in : List ℕ → ℕ → ℕ
number_in numbers n = get_or numbers n 0

-- The nodes of M are nodes of A, listed in the order of their numbers in M. The table has the new number of each node to which an arc leads.
pub record Kept (A M : Automaton) (nodes numbers : List ℕ) : Type 0 where
  pub node : (i : ℕ) → i < M.nodes → get_or nodes i 0 < A.nodes
  pub arcs : (i t : ℕ) → i < M.nodes → M.arc i t ≡ map (number_in numbers) (A.arc (get_or nodes i 0) t)
  pub labels : (i : ℕ) → i < M.nodes → M.label i ≡ A.label (get_or nodes i 0)

-- ---- the cells of a node's arcs, on any words

-- the cell of an arc whose entry is given as 1 plus its index, or as 0 if there is none
unfoldable pub arc_cell : List ℕ → List ℕ → ℕ → ℕ
arc_cell sheet numbers zero = 0
arc_cell sheet numbers (suc i) = number_in numbers (entry_value sheet i) + 1

module _ (net sheet numbers : List ℕ) (n : ℕ) where
  unfoldable pub arc_cell_at : ℕ → ℕ
  arc_cell_at t = arc_cell sheet numbers (get_or (arc_entry_row net sheet n) t 0)

  unfoldable pub arc_cells : List ℕ
  arc_cells = tabulate arc_cell_at 32
