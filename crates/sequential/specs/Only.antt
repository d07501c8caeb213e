-- A net with one source left (§10.31; source document 001, Definition 6): the other sources are removed, and every transition keeps its number.
use Rattle.std.specs.Prelude.{ℕ, Bool, not, ◌&&◌, ltb, eqb}
use Rattle.sequential.specs.Petri.{PetriNet}
use Rattle.sequential.specs.Tests.{is_source}

module _ (N : PetriNet) (s : ℕ) where
  -- whether s is a source; if it is not, nothing is removed
  unfoldable pub is_source_of : Bool
  is_source_of = ltb s N.transitions && is_source N s

  unfoldable pub is_removed : ℕ → Bool
  is_removed t = is_source_of && (is_source N t && not (eqb t s))

  abbrev pub only : PetriNet
  only = record {
    places = N.places;
    transitions = N.transitions;
    taken = N.taken;
    put = N.put;
    start = N.start;
    capacity = N.capacity;
    kept = λ t. N.kept t && not (is_removed t);
  }
