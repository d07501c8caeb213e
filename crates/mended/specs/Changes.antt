-- The list of changes (§10.16): how many, the keys n × P + p, and the new counts, by rising key.
use Rattle.std.specs.Prelude.{ℕ, ◌+◌, ◌*◌, List, ◌∷◌, ◌++◌, Bool, not, length, eqb}
use Rattle.std.proofs.Math.Option.{Option}
use Rattle.scan.specs.Scan.{when}
use Rattle.sequential.specs.Petri.{PetriNet, petri_net}
use Rattle.sequential.specs.Words.{node_count, count_at, graph}
use Rattle.encoding.specs.Encoding.{gather_rows}
use Rattle.mended.specs.Counts.{new_count}

module _ (N : PetriNet) (sheet : List ℕ) where
  -- the new count differs from the given one, which is 0 if none is given
  unfoldable pub changed : ℕ → ℕ → Bool
  changed n p = not (eqb (new_count N (graph N sheet) n p) (count_at N sheet n p))

  unfoldable pub changed_key : ℕ → ℕ → Option ℕ
  changed_key n p = when (changed n p) (n * N.places + p)

  -- the new count of a change, which may be 0
  unfoldable pub changed_count : ℕ → ℕ → Option ℕ
  changed_count n p = when (changed n p) (new_count N (graph N sheet) n p)

  unfoldable pub changed_keys : List ℕ
  changed_keys = gather_rows changed_key N.places (node_count sheet)

  unfoldable pub changed_counts : List ℕ
  changed_counts = gather_rows changed_count N.places (node_count sheet)

  unfoldable pub change_list : List ℕ
  change_list = length changed_keys ∷ (changed_keys ++ changed_counts)

unfoldable pub changes : List ℕ → List ℕ → List ℕ
changes net sheet = change_list (petri_net net) sheet
