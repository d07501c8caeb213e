-- What the walk along the arcs relies on and finds at a node that offers one whole choice set. No contract of a public function cites it.
use Rattle.std.specs.Prelude.{ℕ, ◌+◌, ◌*◌, ◌≤◌, ◌<◌, min, ◌≡◌, true, List, length, get_or}
use Rattle.scan.specs.Scan.{all}
use Rattle.table.specs.Table.{Rising}
use Rattle.table.specs.Bisection.{lower_bound}
use Rattle.table.specs.Row.{entry_row}
use Rattle.refusal.specs.Limits.{most_transitions, most_entries}
use Rattle.net.specs.Net.{transition_count}
use Rattle.sequential.specs.Words.{entry_count}
use Rattle.choice.specs.Choices.{present_as_choice}

-- among rising keys, a row begins at the key `first`, and its entries at `start`
pub record RowAt (sheet : List ℕ) (first start : ℕ) : Type 0 where
  pub whole : length sheet ≡ 2 + 2 * entry_count sheet
  pub few : entry_count sheet ≤ most_entries
  pub up : Rising sheet 2 (entry_count sheet)
  pub low : first ≤ 4096
  pub start_is : start ≡ lower_bound sheet 2 (entry_count sheet) first

-- the first entry of the row is the arc of c, and the table has c for c
pub record FirstArc (sheet leaders : List ℕ) (first start c : ℕ) : Type 0 where
  pub entry : start < entry_count sheet
  pub has : get_or sheet (2 + start) 0 ≡ first + c
  pub own : get_or leaders c 0 ≡ c

-- c is a transition, and the table has c for no lower one and for none from `end` on
pub record SetFrom (leaders : List ℕ) (transitions c end : ℕ) : Type 0 where
  pub few : transitions ≤ most_transitions
  pub below : c < transitions
  pub within : end ≤ transitions
  pub none_before : (u : ℕ) → u < c → get_or leaders u 0 ≡ c → ⊥
  pub none_after : (u : ℕ) → end ≤ u → u < transitions → get_or leaders u 0 ≡ c → ⊥

-- the ends of all choice sets
pub record SetEnds (leaders : List ℕ) (transitions : ℕ) (ends : List ℕ) : Type 0 where
  pub within : (c : ℕ) → get_or ends c 0 ≤ transitions
  pub beyond : (u : ℕ) → u < transitions → get_or leaders u 0 < most_transitions → u < get_or ends (get_or leaders u 0) 0

-- the row has an arc for each member of the choice set of c and no others, and the next row's entries begin at `next`
pub record WholeRow (sheet leaders : List ℕ) (transitions first c next : ℕ) : Type 0 where
  pub whole : all (present_as_choice (entry_row sheet 2 (entry_count sheet) first transitions) leaders c) transitions ≡ true
  pub next_is : next ≡ lower_bound sheet 2 (entry_count sheet) (first + transitions)

-- T, and a table that has for each transition one that is no greater, or 32 if it is removed
pub record Offering (net leaders : List ℕ) (transitions : ℕ) : Type 0 where
  pub all : transitions ≡ min (transition_count net) most_transitions
  pub led : (t : ℕ) → t < transitions → get_or leaders t 0 < most_transitions → get_or leaders t 0 ≤ t
