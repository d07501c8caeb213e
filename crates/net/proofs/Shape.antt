-- 1 and 2: the sizes and the length of a net.
use Rattle.scan.proofs.Basics.{ℕ, ◌+◌, ◌*◌, ◌≤◌, arith, ◌≡◌, true, none, List, length}
use native.Mathlib.Nat.{mul-le-mul}
use Rattle.scan.proofs.Tests.{le-ltb, leb-true, le-leb, eqb-true, eq-eqb, not-false, and_left, and_right, and_both}
use Rattle.scan.specs.Scan.{or_else, when}
use Rattle.scan.proofs.First.{or_else-left, or_else-right, when-none}
use Rattle.net.specs.Net.{place_count, transition_count, weight_count, net_key_limit}
use Rattle.refusal.specs.Finding.{found_by, finding}
use Rattle.net.specs.Checks.{NetSizesPass}
use Rattle.net.specs.Known.{ShapePasses, Known}
use Rattle.net.specs.Check.{sizes_pass, shape_fault}

pub sizes-out : (net : List ℕ) → sizes_pass (place_count net) (transition_count net) (weight_count net) ≡ true → NetSizesPass net
unfolding sizes_pass net_key_limit
sizes-out net h = record {
  some_place = leb-true _ _ (search (and_left, and_right));
  few_places = leb-true _ _ (search (and_left, and_right));
  some_transition = leb-true _ _ (search (and_left, and_right));
  few_transitions = leb-true _ _ (search (and_left, and_right));
  few_entries = leb-true _ _ (search (and_left, and_right));
}

pub sizes-in : (net : List ℕ) → NetSizesPass net → sizes_pass (place_count net) (transition_count net) (weight_count net) ≡ true
unfolding sizes_pass net_key_limit
sizes-in net s =
    let a = le-leb _ _ s.some_place in
    let b = le-leb _ _ s.few_places in
    let c = le-leb _ _ s.some_transition in
    let d = le-leb _ _ s.few_transitions in
    let e = le-leb _ _ s.few_entries in
    search and_both depth 12

pub shape-out : (net : List ℕ) → shape_fault net ≡ none → ShapePasses net
unfolding shape_fault finding found_by
shape-out net h = record {
  sizes = sizes-out net (not-false _ (when-none _ _ (or_else-left _ _ (or_else-right _ _ h))));
  whole = eqb-true _ _ (not-false _ (when-none _ _ (or_else-right _ _ (or_else-right _ _ h))));
}

pub shape-in : (net : List ℕ) → ShapePasses net → shape_fault net ≡ none
unfolding shape_fault finding found_by or_else when
shape-in net s =
    rw (le-ltb (length net) 3 (omega (arith, s.whole)), sizes-in net s.sizes, eq-eqb (length net) (3 + 2 * weight_count net) s.whole)

-- every key is below this, whatever the sizes
pub limit-high : (net : List ℕ) → NetSizesPass net → net_key_limit net ≤ 2112
unfolding net_key_limit
limit-high net s = let a : 2 * transition_count net + 2 ≤ 66 = omega (arith, s.few_transitions) in mul-le-mul a s.few_places

-- the same about the words themselves
pub known : (net : List ℕ) → shape_fault net ≡ none → Known net
unfolding place_count transition_count weight_count net_key_limit
known net h =
    let s = shape-out net h in
    let l = limit-high net s.sizes in
    record {
      long = s.whole;
      some_place = s.sizes.some_place;
      few_places = s.sizes.few_places;
      some_transition = s.sizes.some_transition;
      few_transitions = s.sizes.few_transitions;
      few_keys = l;
      few_entries = omega (arith, s.sizes.few_entries);
    }
