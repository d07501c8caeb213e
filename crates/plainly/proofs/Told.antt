-- The net and the graph that tables and grid describe, cell by cell.
use Rattle.scan.proofs.Basics.{ℕ, zero, suc, ◌+◌, ◌*◌, ◌≤◌, ◌<◌, arith, ◌≡◌, refl, sym, ◌⊎◌, inl, inr, false, not, ◌&&◌, ◌||◌, eqb, Option, none, some, List, get_or}
use mathlib.Core.Bool.{and-false}
use lib.IntN.{pos, ◌-ℤ◌}
use Rattle.std.specs.Prelude as prelude
use Rattle.std.specs.Prelude.{None, Some, is_some}
use Rattle.std.proofs.lemmas.List.{get_or_past}
use Rattle.refusal.specs.Index.{index_from}
use Rattle.refusal.specs.Limits.{most_count}
use Rattle.scan.specs.Scan.{tabulate, found, all}
use Rattle.scan.proofs.Tabulate.{tabulate-at, tabulate-length}
use Rattle.scan.proofs.Tests.{lt-ltb, le-ltb, by_less}
use Rattle.automaton.specs.Automaton.{Automaton}
use Rattle.sequential.specs.Tests.{is_source, takes_nothing, takes_same, shares_place, shares_alike, free_choice, same_choice, offers_as_choice, offers_one_choice_set}
use Rattle.plainly.specs.declared.Spread.{Spread}
use Rattle.plainly.specs.Tables.{Fit, net_of, graph_of, arc_of, in_table, taken_by, put_by, put_told, held_by, label_by, arc_by}

-- a number that can be missing, in the checks' vocabulary
pub is-found : {o : Option ℕ} {i : ℕ} → Some i ≡ index_from o → o ≡ some i
is-found {o = none} e = cc
is-found {o = some j} e = cc

pub not-found : {o : Option ℕ} → None ≡ index_from o → o ≡ none
not-found {o = none} e = refl
not-found {o = some j} e = cc

pub found-is : (o : Option ℕ) {r : prelude.Option ℕ} → r ≡ index_from o → is_some r ≡ found o
unfolding found
found-is none e = rw e
found-is (some i) e = rw e

module _ (s : Spread) where
  pub few-transitions : (grid : List ℕ) → Fit s grid → (net_of s).transitions ≤ 32
  unfolding net_of
  few-transitions grid z = z.few_transitions

  pub few-nodes : (grid : List ℕ) → Fit s grid → (graph_of s grid).nodes ≤ 128
  unfolding graph_of
  few-nodes grid z = z.few_nodes

  -- ---- the tables

  put-in : (t p : ℕ) → t < s.transitions → p < s.places → (net_of s).put t p ≡ put_by (get_or s.taken (t * 32 + p) 0) (get_or s.change (t * 32 + p) (pos 0))
  unfolding net_of put_told in_table
  put-in t p l k = rw (lt-ltb t s.transitions l, lt-ltb p s.places k)

  taken-in : (t p : ℕ) → t < s.transitions → p < s.places → (net_of s).taken t p ≡ get_or s.taken (t * 32 + p) 0
  unfolding net_of taken_by in_table
  taken-in t p l k = rw (lt-ltb t s.transitions l, lt-ltb p s.places k)

  out-of-table : (t p : ℕ) → (s.transitions ≤ t) ⊎ (s.places ≤ p) → in_table s t p ≡ false
  unfolding in_table
  out-of-table t p (inl l) = rw (le-ltb t s.transitions l)
  out-of-table t p (inr l) = rw (le-ltb p s.places l, and-false)

  pub change-told : (grid : List ℕ) → Fit s grid → (t p : ℕ) → t < s.transitions → p < s.places
      → (get_or s.change (t * 32 + p) (pos 0) ≡ pos ((net_of s).put t p) -ℤ pos ((net_of s).taken t p)) × ((net_of s).put t p ≤ most_count) × ((net_of s).taken t p ≤ most_count)
  change-told grid z t p l k =
      let h = z.puts (t * 32 + p) (omega (arith, z.few_places, z.few_transitions)) in
      rw (put-in t p l k, taken-in t p l k) (h.change_is, h.most, h.taken_most)

  pub change-none : (t p : ℕ) → (s.transitions ≤ t) ⊎ (s.places ≤ p)
      → (pos 0 ≡ pos ((net_of s).put t p) -ℤ pos ((net_of s).taken t p)) × ((net_of s).put t p ≤ most_count) × ((net_of s).taken t p ≤ most_count)
  unfolding net_of taken_by put_told
  change-none t p o = rw (out-of-table t p o) (refl, omega arith, omega arith)

  -- ---- the grid

  module _ (grid : List ℕ) where
    pub held-told : (n p : ℕ) → n < s.nodes → p < s.places → get_or grid (n * 64 + 32 + p) 0 ≡ get_or ((graph_of s grid).label n) p 0
    unfolding graph_of label_by held_by
    held-told n p l k = sym (rw (lt-ltb n s.nodes l) (tabulate-at (held_by s grid n) 0 s.places p k))

    pub held-none : (n p : ℕ) → (s.nodes ≤ n) ⊎ (s.places ≤ p) → 0 ≡ get_or ((graph_of s grid).label n) p 0
    unfolding graph_of label_by
    held-none n p (inl l) = rw (le-ltb n s.nodes l)
    held-none n p (inr l) = by_less n s.nodes (λ k. rw (lt-ltb n s.nodes k) (sym (get_or_past (tabulate (held_by s grid n) s.places) p 0 (rw tabulate-length l)))) (λ k. rw (le-ltb n s.nodes k))

    -- an arc leads to a node
    pub arc-lands : Fit s grid → (n t m : ℕ) → (graph_of s grid).arc n t ≡ some m → m < (graph_of s grid).nodes
    unfolding graph_of arc_by
    arc-lands z n t m e =
        by_less n s.nodes
        (λ l. by_less t s.transitions (λ k. lands (get_or grid (n * 64 + t) 0) (z.targets n t l k) (rw (lt-ltb n s.nodes l, lt-ltb t s.transitions k) at e))
        (λ k. missing (rw (le-ltb t s.transitions k, and-false) at e)))
        (λ l. missing (rw (le-ltb n s.nodes l) at e))
      where
        lands : (c : ℕ) → c ≤ s.nodes → arc_of c ≡ some m → m < s.nodes
        lands zero i q = cc
        lands (suc c) i q = let w : c ≡ m = cc in omega arith

        missing : none ≡ some m → m < s.nodes
        missing q = cc

-- ---- nothing is removed from the net of the tables

module _ (s : Spread) where
  pub source-all : (t : ℕ) → is_source (net_of s) t ≡ all (takes_nothing (net_of s) t) (net_of s).places
  unfolding is_source net_of
  source-all t = refl

  pub alike-all : (t u : ℕ) → shares_alike (net_of s) t u ≡ (not (shares_place (net_of s) t u) || takes_same (net_of s) t u)
  unfolding shares_alike net_of
  alike-all t u = refl

  pub same-all : (t u : ℕ) → same_choice (net_of s) t u ≡ (eqb t u || (takes_same (net_of s) t u && free_choice (net_of s) t))
  unfolding same_choice net_of
  same-all t u = refl

  pub set-all : (A : Automaton) (n : ℕ) → offers_one_choice_set (net_of s) A n ≡ all (offers_as_choice (net_of s) A n) (net_of s).transitions
  unfolding offers_one_choice_set net_of
  set-all A n = refl
