-- What a list of changes says (§10.16) about the given and the mended counts.
use Rattle.std.specs.Prelude.{ℕ, ◌+◌, ◌*◌, ◌<◌, ◌≡◌, ◌↔◌, List, length, get_or}
use Rattle.sequential.specs.Petri.{PetriNet}
use Rattle.sequential.specs.Words.{node_count, count_at}

-- key k and count v stand at one index: the keys follow the size, and the counts follow the keys
pub record Listed (list : List ℕ) (k v : ℕ) : Type 0 where
  pub index : ℕ
  pub below : index < get_or list 0 0
  pub key : get_or list (1 + index) 0 ≡ k
  pub value : get_or list (1 + get_or list 0 0 + index) 0 ≡ v

-- v is the mended count of a place at a node, k is the key of place and node, and v differs from the given count, which is 0 if absent
pub record Changed (N : PetriNet) (given mended : List ℕ) (k v : ℕ) : Type 0 where
  pub node : ℕ
  pub place : ℕ
  pub is_node : node < node_count given
  pub is_place : place < N.places
  pub key : k ≡ node * N.places + place
  pub new : count_at N mended node place ≡ v
  pub unlike : v ≡ count_at N given node place → ⊥

pub record ListsChanges (N : PetriNet) (given mended list : List ℕ) : Type 0 where
  pub whole : length list ≡ 1 + 2 * get_or list 0 0
  pub rising : (i j : ℕ) → i < j → j < get_or list 0 0 → get_or list (1 + i) 0 < get_or list (1 + j) 0
  pub exactly : (k v : ℕ) → Listed list k v ↔ Changed N given mended k v
