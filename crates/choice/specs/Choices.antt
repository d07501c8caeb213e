-- How the code stores choice sets, and how it reads what a row of arcs offers. No contract of a public function cites it.
use Rattle.std.specs.Prelude.{ℕ, ◌<◌, ◌≡◌, List, Bool, true, false, cond, not, ◌&&◌, ◌||◌, get_or, ltb, eqb}
use Rattle.std.specs.Bool.{beq}
use Rattle.scan.specs.Scan.{all, any, least}
use Rattle.refusal.specs.Limits.{most_transitions}
use Rattle.net.specs.Accessors.{taken_row_reply}
use Rattle.automaton.specs.Equivalence.{leader_by}
use Rattle.sequential.specs.Petri.{PetriNet}
use Rattle.sequential.specs.Tests.{is_source, free_choice, same_choice}
use Rattle.choice.specs.Rows.{net_by_rows, present}
use Rattle.choice.specs.declared.offers.Offer.{Offer}
use Rattle.choice.specs.declared.offers.Offer.TheVariants.{Nothing, Whole, Torn}

-- the least transition of t's choice set, or 32, which is no transition, if t is removed
unfoldable pub choice_of : PetriNet → ℕ → ℕ
choice_of N t = cond (N.kept t) (leader_by (same_choice N) t) most_transitions

-- the same after all sources but s are removed, given the value before and the least source before
unfoldable pub left_of : ℕ → ℕ → ℕ → ℕ → ℕ
left_of leader source s t = cond (eqb leader source) (cond (eqb t s) s most_transitions) leader

-- the least source
unfoldable pub first_source : PetriNet → ℕ
first_source N = least (is_source N) N.transitions

-- the choice sets of the net's transitions, and its least source
pub record ChoicesOf (N : PetriNet) (leaders : List ℕ) (source : ℕ) : Type 0 where
  pub leaders_are : (t : ℕ) → t < N.transitions → get_or leaders t 0 ≡ choice_of N t
  pub source_is : source ≡ first_source N

-- a note on `leader`, the least of the transitions that take the same: 1 says that their choice is free, a higher number that it is not, 0 says nothing
pub record Noted (N : PetriNet) (note leader : ℕ) : Type 0 where
  pub free : note ≡ 1 → free_choice N leader ≡ true
  pub not_free : 1 < note → free_choice N leader ≡ false

-- the note after transition t, which takes the same as `leader`: it says nothing only if t is `leader`
pub record NotedAfter (N : PetriNet) (note leader t : ℕ) : Type 0 where
  pub noted : Noted N note leader
  pub asked : note ≡ 0 → leader ≡ t

-- two rows have the same weight at place p
unfoldable pub equal_at : List ℕ → List ℕ → ℕ → Bool
equal_at a b p = eqb (get_or a p 0) (get_or b p 0)

-- a row has the weight 0 at place p
unfoldable pub zero_at : List ℕ → ℕ → Bool
zero_at row p = eqb (get_or row p 0) 0

-- a row has a weight above 0 at place p
unfoldable pub weighs_at : List ℕ → ℕ → Bool
weighs_at row p = ltb 0 (get_or row p 0)

-- for each transition the first place that it draws on, or P if it draws on none
pub record FirstPlaces (net firsts : List ℕ) : Type 0 where
  pub first : (t : ℕ) → t < (net_by_rows net).transitions → get_or firsts t 0 ≡ least (weighs_at (taken_row_reply net t)) (net_by_rows net).places

-- both rows have a weight above 0 at place p
unfoldable pub both_at : List ℕ → List ℕ → ℕ → Bool
both_at a b p = ltb 0 (get_or a p 0) && ltb 0 (get_or b p 0)

-- no place has a weight above 0 in both rows, or the rows are equal
unfoldable pub rows_fit : List ℕ → List ℕ → ℕ → Bool
rows_fit a b places = not (any (both_at a b) places) || all (equal_at a b) places

-- a row has an arc by t exactly if c is the least transition of t's choice set
unfoldable pub present_as_choice : List ℕ → List ℕ → ℕ → ℕ → Bool
present_as_choice row leaders c t = beq (present row t) (eqb (get_or leaders t 0) c)

-- what a row offers whose first arc is by t: nothing if t is no transition; exactly the choice set of t; or something else, as always if t is removed
unfoldable pub offer_from : List ℕ → List ℕ → ℕ → ℕ → Offer
offer_from row leaders transitions t =
    let c = get_or leaders t 0 in cond (ltb t transitions) (cond (ltb c most_transitions && all (present_as_choice row leaders c) transitions) (Whole c) Torn) Nothing

unfoldable pub offer_of : List ℕ → List ℕ → ℕ → Offer
offer_of row leaders transitions = offer_from row leaders transitions (least (present row) transitions)
