-- What is promised of the net's weights and of the accessors, as statements: all that the crates above know of a net. proofs/Demands has a term for each.
use Rattle.std.specs.Prelude.{ℕ, ◌+◌, ◌*◌, ◌≤◌, ◌<◌, ◌≡◌, List}
use Rattle.std.proofs.Math.Option.{none, some, get_or}
use Rattle.scan.specs.Scan.{tabulate}
use Rattle.refusal.specs.Limits.{most_places, most_count}
use Rattle.net.specs.Net.{place_count, transition_count, weight_count, weight_key, taken, put, start, capacity, Within}
use Rattle.net.specs.Checks.{IsNet}
use Rattle.net.specs.Accessors.{capacity_told, taken_reply, put_reply, start_reply, capacity_reply, taken_row_reply, put_row_reply, start_row_reply, capacity_row_reply}

-- on a net the accessors answer the weights and the capacities of its words; in a row, 0 stands for no capacity: §10.2
pub record AccessorsRight (net : List ℕ) : Type 0 where
  pub takes : (t p : ℕ) → taken_reply net t p ≡ taken net t p
  pub puts : (t p : ℕ) → put_reply net t p ≡ put net t p
  pub starts : (p : ℕ) → start_reply net p ≡ start net p
  pub capacities : (p : ℕ) → capacity_reply net p ≡ capacity_told (capacity net p)
  pub takes_row : (t : ℕ) → taken_row_reply net t ≡ tabulate (taken net t) most_places
  pub puts_row : (t : ℕ) → put_row_reply net t ≡ tabulate (put net t) most_places
  pub starts_row : start_row_reply net ≡ tabulate (start net) most_places
  pub capacities_row : capacity_row_reply net ≡ tabulate (λ p. get_or (capacity net p) 0) most_places

abbrev pub AccessorsMean : Type 0
AccessorsMean = (net : List ℕ) → IsNet net → AccessorsRight net

-- a number that is no transition or no place has no weight and no capacity, on any words: §2.8, §2.10
pub record NothingOutside (net : List ℕ) : Type 0 where
  pub taken_no_transition : (t p : ℕ) → transition_count net ≤ t → taken net t p ≡ 0
  pub taken_no_place : (t p : ℕ) → place_count net ≤ p → taken net t p ≡ 0
  pub put_no_transition : (t p : ℕ) → transition_count net ≤ t → put net t p ≡ 0
  pub put_no_place : (t p : ℕ) → place_count net ≤ p → put net t p ≡ 0
  pub start_no_place : (p : ℕ) → place_count net ≤ p → start net p ≡ 0
  pub capacity_no_place : (p : ℕ) → place_count net ≤ p → capacity net p ≡ none

abbrev pub OutsideNothing : Type 0
OutsideNothing = (net : List ℕ) → NothingOutside net

-- words without a key of a capacity give no place a capacity, whether or not they are a net: §2.10
abbrev pub NoCapacityKeys : List ℕ → Type 0
NoCapacityKeys net = (i : ℕ) → i < weight_count net → weight_key net i < (2 * transition_count net + 1) * place_count net

abbrev pub WithoutCapacities : Type 0
WithoutCapacities = (net : List ℕ) → NoCapacityKeys net → (p : ℕ) → capacity net p ≡ none

-- no weight of a net is above the limit, no capacity is 0, and no place starts above its own: §1.5, §2.4, §2.11
pub record WeightsLow (net : List ℕ) : Type 0 where
  pub takes : (t p : ℕ) → taken net t p ≤ most_count
  pub puts : (t p : ℕ) → put net t p ≤ most_count
  pub starts : (p : ℕ) → start net p ≤ most_count
  pub some_capacity : (p c : ℕ) → capacity net p ≡ some c → 1 ≤ c
  pub capacities : (p c : ℕ) → capacity net p ≡ some c → c ≤ most_count
  pub starts_within : (p : ℕ) → Within (capacity net p) (start net p)

abbrev pub WeightsLimited : Type 0
WeightsLimited = (net : List ℕ) → IsNet net → WeightsLow net
