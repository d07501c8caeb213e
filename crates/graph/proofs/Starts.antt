-- The first keys of a node's rows: small numbers on any words, and where the sizes are in range those of §3.5 and §3.6.
use Rattle.scan.proofs.Basics.{ℕ, ◌+◌, ◌*◌, ◌≤◌, ◌<◌, arith, ◌≡◌, refl, sym, ◌∙◌, ◌&&◌, leb, List}
use native.Mathlib.Nat.{mul-le-mul}
use Rattle.scan.proofs.Tests.{leb-true, le-leb, by_test, and_left, and_right}
use Rattle.row_starts.proofs.Page.{start_is}
use Rattle.net.specs.Net.{place_count, transition_count}
use Rattle.graph.specs.Rows.{arcs_start, arcs_end, counts_start}

module _ (net : List ℕ) (n : ℕ) where
  pub arcs-end : n ≤ 128 → transition_count net ≤ 32 → n * transition_count net ≡ arcs_end net n
  unfolding arcs_end
  arcs-end h k = rw (le-leb n 128 h, le-leb (transition_count net) 32 k) refl

  pub arcs-end-low : arcs_end net n ≤ 4096
  unfolding arcs_end
  arcs-end-low =
      by_test (leb n 128 && leb (transition_count net) 32)
      (λ e. rw e (mul-le-mul (leb-true n 128 (and_left _ _ e)) (leb-true (transition_count net) 32 (and_right (leb n 128) _ e)))) (λ e. rw e (omega arith))

module _ (net : List ℕ) (nodes n : ℕ) where
  pub counts_start_lem : n ≤ 128 → place_count net ≤ 32 → arcs_end net nodes + n * place_count net ≡ counts_start net nodes n
  unfolding counts_start
  counts_start_lem h k = rw (le-leb n 128 h, le-leb (place_count net) 32 k) refl

  pub counts-start-low : counts_start net nodes n ≤ 8192
  unfolding counts_start
  counts-start-low =
      by_test (leb n 128 && leb (place_count net) 32)
      (λ e. rw e (omega (arith, arcs-end-low net nodes, mul-le-mul (leb-true n 128 (and_left _ _ e)) (leb-true (place_count net) 32 (and_right (leb n 128) _ e)))))
      (λ e. rw e (omega arith))

-- the first key of a node's counts is V × T + n × P
pub counts-start-is : (net : List ℕ) (nodes n : ℕ) → nodes ≤ 128 → n ≤ 128 → transition_count net ≤ 32 → place_count net ≤ 32
    → counts_start net nodes n ≡ nodes * transition_count net + n * place_count net
counts-start-is net nodes n h k t p = sym (counts_start_lem net nodes n k p) ∙ rw (← arcs-end net nodes h t) refl

-- the first key of a node's arcs is n × T
pub arcs-start-is : (net : List ℕ) (n : ℕ) → n < 128 → 1 ≤ transition_count net → transition_count net ≤ 32 → arcs_start net n ≡ n * transition_count net
unfolding arcs_start
arcs-start-is net n l a b = start_is n (transition_count net) l a b
