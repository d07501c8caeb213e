-- What the net's accessors answer on any words: the weight that bisection finds, and the row that one walk from there finds; 0 if 1 or 2 refuses the net.
-- On an accepted net these are the weights of §2.5 to §2.8 and the capacities of §2.10 (Demands, `AccessorsRight`): §10.2.
use Rattle.std.specs.Prelude as prelude
use Rattle.std.specs.Prelude.{ℕ, zero, suc, ◌+◌, ◌*◌, List, Bool, true, cond, not, ◌&&◌, ◌||◌, replicate, ltb, leb, eqb, None, Some}
use Rattle.std.proofs.Math.Option.{Option, none, some}
use Rattle.scan.specs.Scan.{found}
use Rattle.table.specs.Bisection.{look_up, Found}
use Rattle.table.specs.Row.{value_row}
use Rattle.refusal.specs.Limits.{most_places}
use Rattle.net.specs.Net.{place_count, transition_count, weight_count, entry_weight}
use Rattle.net.specs.Check.{shape_fault}

-- a capacity as an answer; no capacity is a case of its own. As a plain number it is 1 more, or 0 (`plain_index`, §8.4)
abbrev pub PlaceCapacity : Type 0
PlaceCapacity = prelude.Option ℕ

abbrev pub capacity_told : Option ℕ → PlaceCapacity
capacity_told none = None
capacity_told (some c) = Some c

-- the capacity that a word of a row gives: 0 is none, since no capacity is 0
abbrev pub capacity_of_word : ℕ → PlaceCapacity
capacity_of_word zero = None
capacity_of_word (suc c) = Some (suc c)

-- a count is within the capacity that such a word gives
unfoldable pub word_allows : ℕ → ℕ → Bool
word_allows capacity n = eqb capacity 0 || leb n capacity

module _ (net : List ℕ) where
  unfoldable pub shaped : Bool
  shaped = not (found (shape_fault net))

  abbrev pub weight_found : Found → ℕ
  weight_found (Some i) = entry_weight net i
  weight_found None = 0

  unfoldable pub weight_reply : ℕ → ℕ
  weight_reply key = weight_found (look_up net 3 (weight_count net) key)

  -- the weight at place p of a row of keys, and the whole row
  unfoldable pub row_reply : ℕ → ℕ → ℕ
  row_reply row p = cond (ltb p (place_count net)) (weight_reply (row * place_count net + p)) 0

  unfoldable pub row_weights : ℕ → List ℕ
  row_weights row = value_row net 3 (weight_count net) (row * place_count net) (place_count net)

  -- the same on any words, 0 if there is no such row; `known` says whether the row is known to be there
  unfoldable pub weight_or_zero : Bool → ℕ → ℕ → ℕ
  weight_or_zero known row p = cond (known && shaped) (row_reply row p) 0

  unfoldable pub row_or_zeros : Bool → ℕ → List ℕ
  row_or_zeros known row = cond (known && shaped) (row_weights row) (replicate most_places 0)

  -- row t is what t takes, row T + t what t puts, row 2 × T what the places start with, row 2 × T + 1 their capacities
  unfoldable pub taken_reply : ℕ → ℕ → ℕ
  taken_reply t p = weight_or_zero (ltb t (transition_count net)) t p

  unfoldable pub put_reply : ℕ → ℕ → ℕ
  put_reply t p = weight_or_zero (ltb t (transition_count net)) (transition_count net + t) p

  unfoldable pub start_reply : ℕ → ℕ
  start_reply p = weight_or_zero true (2 * transition_count net) p

  unfoldable pub capacity_reply : ℕ → PlaceCapacity
  capacity_reply p = capacity_of_word (weight_or_zero true (2 * transition_count net + 1) p)

  unfoldable pub taken_row_reply : ℕ → List ℕ
  taken_row_reply t = row_or_zeros (ltb t (transition_count net)) t

  unfoldable pub put_row_reply : ℕ → List ℕ
  put_row_reply t = row_or_zeros (ltb t (transition_count net)) (transition_count net + t)

  unfoldable pub start_row_reply : List ℕ
  start_row_reply = row_or_zeros true (2 * transition_count net)

  unfoldable pub capacity_row_reply : List ℕ
  capacity_row_reply = row_or_zeros true (2 * transition_count net + 1)
