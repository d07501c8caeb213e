-- What the crates above use about a net: its sizes, the range of its weights and capacities, and that what is no transition or place has none.
-- They rely on these laws and on the accessors' contracts, and open no definition of the net.
use Rattle.std.specs.Prelude.{Ok}
use Rattle.scan.proofs.Basics.{ℕ, ◌+◌, ◌*◌, ◌≤◌, arith, ◌≡◌, Bool, true, false, cond, ◌&&◌, ltb, none, some, List}
use native.Mathlib.Decide.{dec_lt}
use mathlib.Core.Bool.{and-false}
use Rattle.scan.proofs.Tests.{le-ltb, by_test}
use Rattle.scan.proofs.First.{none-some}
use Rattle.table.proofs.Table.{entry_absent}
use Rattle.refusal.specs.Limits.{most_count}
use Rattle.net.specs.Net.{place_count, transition_count, weight_count, weight_key, taken, put, start, capacity, Within}
use Rattle.net.specs.Check.{net_reply}
use Rattle.net.specs.Checks.{NetSizesPass, IsNet, HasSource}
use Rattle.net.specs.Demands.{AccessorsRight, NoCapacityKeys}
use Rattle.net.proofs.Accessors.{capacity-range, accessors-right}
use Rattle.net.specs.Known.{EntriesPass}
use Rattle.net.proofs.Entries.{weight-small}
use Rattle.net.proofs.Checks.{net-judged, net-entries}

-- ---- outside the net

module _ (net : List ℕ) where
  pub taken_no_transition : (t p : ℕ) → transition_count net ≤ t → taken net t p ≡ 0
  unfolding taken
  taken_no_transition t p l = rw (le-ltb t (transition_count net) l)

  pub taken_no_place : (t p : ℕ) → place_count net ≤ p → taken net t p ≡ 0
  unfolding taken
  taken_no_place t p l = rw (le-ltb p (place_count net) l, and-false (ltb t (transition_count net)))

  pub put_no_transition : (t p : ℕ) → transition_count net ≤ t → put net t p ≡ 0
  unfolding put
  put_no_transition t p l = rw (le-ltb t (transition_count net) l)

  pub put_no_place : (t p : ℕ) → place_count net ≤ p → put net t p ≡ 0
  unfolding put
  put_no_place t p l = rw (le-ltb p (place_count net) l, and-false (ltb t (transition_count net)))

  pub start_no_place : (p : ℕ) → place_count net ≤ p → start net p ≡ 0
  unfolding start
  start_no_place p l = rw (le-ltb p (place_count net) l)

  pub capacity_no_place : (p : ℕ) → place_count net ≤ p → capacity net p ≡ none
  unfolding capacity
  capacity_no_place p l = rw (le-ltb p (place_count net) l)

-- ---- without capacities

pub no-capacity : (net : List ℕ) → NoCapacityKeys net → (p : ℕ) → capacity net p ≡ none
unfolding capacity weight_key
no-capacity net h p =
    by_test (ltb p (place_count net)) (λ e. rw (e, entry_absent net 3 (weight_count net) ((2 * transition_count net + 1) * place_count net + p) (λ i l q. let z = h i l in omega arith))) (λ e. rw e)

-- ---- an accepted net

guarded : (b : Bool) (w : ℕ) → w ≤ most_count → cond b w 0 ≤ most_count
guarded true w h = h
guarded false w h = omega arith

module _ (net : List ℕ) (accepted : net_reply net ≡ Ok tt) where
  pub is_net : IsNet net
  is_net = (net-judged net).accepts.0 accepted

  passes : EntriesPass net
  passes = net-entries net is_net

  pub accessors : AccessorsRight net
  accessors = accessors-right net passes

  pub sizes : NetSizesPass net
  sizes = passes.shape.sizes

  pub some-source : HasSource net
  some-source = let (a, (b, (c, (d, (s, (e, u)))))) = is_net in e

  pub taken_most : (t p : ℕ) → taken net t p ≤ most_count
  unfolding taken
  taken_most t p = guarded (ltb t (transition_count net) && ltb p (place_count net)) _ (weight-small net passes (t * place_count net + p))

  pub put_most : (t p : ℕ) → put net t p ≤ most_count
  unfolding put
  put_most t p = guarded (ltb t (transition_count net) && ltb p (place_count net)) _ (weight-small net passes ((transition_count net + t) * place_count net + p))

  pub start-most : (p : ℕ) → start net p ≤ most_count
  unfolding start
  start-most p = guarded (ltb p (place_count net)) _ (weight-small net passes (2 * transition_count net * place_count net + p))

  pub capacity-some : (p c : ℕ) → capacity net p ≡ some c → 1 ≤ c
  capacity-some p c h = (capacity-range net passes p c h).0

  pub capacity-most : (p c : ℕ) → capacity net p ≡ some c → c ≤ most_count
  capacity-most p c h = (capacity-range net passes p c h).1

  pub start-within : (p : ℕ) → Within (capacity net p) (start net p)
  start-within p = elim (dec_lt p (place_count net)) [
    | yes l ↦ let (a, (b, (c, (d, (s, e))))) = is_net in (s p l).0
    | no l ↦ λ c h. none-some _ c (capacity_no_place net p (omega arith)) h
  ]
