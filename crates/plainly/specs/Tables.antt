-- The net that the tables describe, and the graph that the grid describes (§10.41). Row t of a table has a cell for each place, at t × 32 + p; row n of the grid
-- has 32 cells for arcs, from n × 64 on, and after them 32 counts.
use Rattle.std.specs.Prelude.{ℕ, zero, suc, ◌+◌, ◌*◌, ◌≤◌, ◌<◌, ◌≡◌, Bool, true, cond, ◌&&◌, List, [], length, get_or, ltb, ℤ, pos, negsuc, ◌+ℤ◌, ◌-ℤ◌}
use Rattle.std.proofs.Math.Option.{Option, none, some}
use Rattle.scan.specs.Scan.{tabulate}
use Rattle.refusal.specs.Limits.{most_count, most_nodes, most_places, most_transitions}
use Rattle.automaton.specs.Automaton.{Automaton}
use Rattle.sequential.specs.Petri.{PetriNet}
use Rattle.plainly.specs.declared.Spread.{Spread}

-- the arc of a cell: 0 is none, else the target is 1 less
abbrev pub arc_of : ℕ → Option ℕ
arc_of zero = none
arc_of (suc m) = some m

-- the capacity of a cell: 0 is none
abbrev pub capacity_of : ℕ → Option ℕ
capacity_of zero = none
capacity_of (suc c) = some (suc c)

-- a change that is not negative, as a natural number
abbrev pub nat_of : ℤ → ℕ
nat_of (pos n) = n
nat_of (negsuc n) = 0

-- what is put: the sum of what is taken and the change
unfoldable pub put_by : ℕ → ℤ → ℕ
put_by taken change = nat_of (pos taken +ℤ change)

module _ (s : Spread) where
  unfoldable pub in_table : ℕ → ℕ → Bool
  in_table t p = ltb t s.transitions && ltb p s.places

  unfoldable pub taken_by : ℕ → ℕ → ℕ
  taken_by t p = cond (in_table t p) (get_or s.taken (t * 32 + p) 0) 0

  unfoldable pub put_told : ℕ → ℕ → ℕ
  put_told t p = cond (in_table t p) (put_by (get_or s.taken (t * 32 + p) 0) (get_or s.change (t * 32 + p) (pos 0))) 0

  unfoldable pub start_by : ℕ → ℕ
  start_by p = cond (ltb p s.places) (get_or s.starts p 0) 0

  unfoldable pub capacity_by : ℕ → Option ℕ
  capacity_by p = cond (ltb p s.places) (capacity_of (get_or s.capacities p 0)) none

  -- the net that the tables describe
  unfoldable pub net_of : PetriNet
  net_of = record { places = s.places; transitions = s.transitions; taken = taken_by; put = put_told; start = start_by; capacity = capacity_by; kept = λ t. true }

  module _ (grid : List ℕ) where
    unfoldable pub arc_by : ℕ → ℕ → Option ℕ
    arc_by n t = cond (ltb n s.nodes && ltb t s.transitions) (arc_of (get_or grid (n * 64 + t) 0)) none

    unfoldable pub held_by : ℕ → ℕ → ℕ
    held_by n p = get_or grid (n * 64 + 32 + p) 0

    unfoldable pub label_by : ℕ → List ℕ
    label_by n = cond (ltb n s.nodes) (tabulate (held_by n) s.places) []

    -- the graph that the grid describes
    unfoldable pub graph_of : Automaton
    graph_of = record { nodes = s.nodes; transitions = s.transitions; arc = arc_by; label = label_by }

-- ---- what the clauses rely on: sizes and numbers are within their limits

-- the sum of what is taken and the change is a weight: what is put
pub record PutIs (taken : ℕ) (change : ℤ) : Type 0 where
  pub most : put_by taken change ≤ most_count
  pub taken_most : taken ≤ most_count
  pub change_is : change ≡ pos (put_by taken change) -ℤ pos taken

pub record Fit (s : Spread) (grid : List ℕ) : Type 0 where
  pub few_places : s.places ≤ most_places
  pub some_transition : 1 ≤ s.transitions
  pub few_transitions : s.transitions ≤ most_transitions
  pub some_node : 1 ≤ s.nodes
  pub few_nodes : s.nodes ≤ most_nodes
  pub long : 8192 ≤ length grid
  pub targets : (n t : ℕ) → n < s.nodes → t < s.transitions → get_or grid (n * 64 + t) 0 ≤ s.nodes
  pub held : (n p : ℕ) → n < s.nodes → p < s.places → get_or grid (n * 64 + 32 + p) 0 ≤ most_count
  pub puts : (i : ℕ) → i < 1024 → PutIs (get_or s.taken i 0) (get_or s.change i (pos 0))
