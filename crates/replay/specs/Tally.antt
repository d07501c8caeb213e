-- How often each transition fires, and what that moves at each place. No contract of a public function cites it.
use Rattle.std.specs.Prelude.{ℕ, ◌+◌, ◌*◌, ◌≤◌, ◌<◌, ◌≡◌, List, ◌++◌, Bool, true, false, length, get_or, drop, eqb, Ok}
use Rattle.scan.specs.Scan.{count, sum, tabulate}
use Rattle.refusal.specs.Limits.{most_firings}
use Rattle.net.specs.Net.{place_count, transition_count}
use Rattle.net.specs.Check.{net_reply}
use Rattle.sequential.specs.Petri.{PetriNet, petri_net}
use Rattle.replay.specs.Log.{firing_count, fired_at}
use Rattle.replay.specs.Calls.{totals_of, taken_row, put_row}
use Rattle.replay.specs.declared.Totals.{Totals}

-- 23 refuses nothing
pub record LogHolds (log : List ℕ) : Type 0 where
  pub few : firing_count log ≤ most_firings
  pub whole : length log ≡ 1 + 2 * firing_count log

-- whether firing i fires t
unfoldable pub fires : List ℕ → ℕ → ℕ → Bool
fires log t i = eqb (fired_at log i) t

unfoldable pub fired_times : List ℕ → ℕ → ℕ
fired_times log t = count (fires log t) (firing_count log)

-- what is put, or what is taken
abbrev pub side_of : PetriNet → Bool → ℕ → ℕ → ℕ
side_of N true = N.put
side_of N false = N.taken

-- what t moves at p, if `parikh` says how often each transition has fired; and what the first n transitions move together
module _ (moves : ℕ → ℕ → ℕ) (parikh : List ℕ) where
  unfoldable pub weighed_by : ℕ → ℕ → ℕ
  weighed_by p t = get_or parikh t 0 * moves t p

  unfoldable pub weighed : ℕ → ℕ → ℕ
  weighed n p = sum (weighed_by p) n

-- the sum at p after `times` times a row is added
unfoldable pub added : List ℕ → List ℕ → ℕ → ℕ → ℕ
added sums row times p = get_or sums p 0 + times * get_or row p 0

abbrev pub at : List ℕ → ℕ → ℕ
at row p = get_or row p 0

-- no number of a row of 32 is above `most`
abbrev pub AtMost : ℕ → List ℕ → Type 0
AtMost most row = (p : ℕ) → p < 32 → get_or row p 0 ≤ most

-- what adding up both sides relies on: a net, and a log whose firings are transitions of the net
pub record Countable (net log : List ℕ) : Type 0 where
  pub accepted : net_reply net ≡ Ok tt
  pub holds : LogHolds log
  pub low : (i : ℕ) → i < firing_count log → fired_at log i < transition_count net

-- what adding up one side relies on: a net, and how often each transition fires, at most 4,096 times
pub record Weighable (net parikh : List ℕ) : Type 0 where
  pub accepted : net_reply net ≡ Ok tt
  pub most : AtMost 4096 parikh

-- both buffers have room for a number for each place
pub record Rooms (net taken put : List ℕ) : Type 0 where
  pub taken_room : place_count net ≤ length taken
  pub put_room : place_count net ≤ length put

-- one side is written place by place, and its total is answered
pub record SideDone (moves : ℕ → ℕ → ℕ) (parikh : List ℕ) (transitions places : ℕ) (out : List ℕ) (r : ℕ) (out' : List ℕ) : Type 0 where
  pub written : out' ≡ tabulate (weighed moves parikh transitions) places ++ drop places out
  pub total : r ≡ sum (weighed moves parikh transitions) places

-- both sides are written, and both totals answered
pub record Settled (net log taken put : List ℕ) (r : Totals) (taken' put' : List ℕ) : Type 0 where
  pub all : r ≡ totals_of (petri_net net) log
  pub taken_written : taken' ≡ taken_row (petri_net net) log ++ drop (place_count net) taken
  pub put_written : put' ≡ put_row (petri_net net) log ++ drop (place_count net) put
