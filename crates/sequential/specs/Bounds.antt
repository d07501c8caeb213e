-- Place bounds: §10.4.
use Rattle.std.specs.Prelude.{ℕ, List}
use Rattle.scan.specs.Scan.{greatest, tabulate}
use Rattle.sequential.specs.Petri.{PetriNet}
use Rattle.sequential.specs.Words.{node_count, count_at}

module _ (N : PetriNet) (sheet : List ℕ) where
  -- what place p holds at node n
  unfoldable pub held_at : ℕ → ℕ → ℕ
  held_at p n = count_at N sheet n p

  unfoldable pub bound : ℕ → ℕ
  bound p = greatest (held_at p) (node_count sheet)

  unfoldable pub bounds : List ℕ
  bounds = tabulate bound N.places
