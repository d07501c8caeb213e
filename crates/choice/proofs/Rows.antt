-- The net and the graph that are read row by row are the net and the graph of the words.
use Rattle.std.specs.Prelude.{Ok}
use Rattle.scan.proofs.Basics.{ℕ, ◌+◌, ◌-◌, ◌≤◌, arith, ◌≡◌, refl, sym, ap, ◌∙◌, Bool, ltb, Option, none, some, option_map, option_get_or, List, get_or, replicate}
use native.Mathlib.Decide.{dec_lt}
use mathlib.Core.Path.{fun_ext}
use mathlib.Core.Bool.{and-false}
use lib.ListN.{get_or-replicate, get_or-eq_default}
use Rattle.scan.proofs.Tests.{lt-ltb, le-ltb, by_test}
use Rattle.scan.specs.Scan.{when, tabulate}
use Rattle.scan.proofs.Tabulate.{tabulate-at, tabulate-length, tabulate-is}
use Rattle.table.specs.Row.{entry_code}
use Rattle.net.specs.Net.{transition_count, taken, put, start, capacity}
use Rattle.net.specs.Check.{net_reply}
use Rattle.net.proofs.Laws.{accessors, sizes, taken_no_place, put_no_place, start_no_place, capacity_no_place, capacity-some}
use Rattle.automaton.specs.Automaton.{Automaton}
use Rattle.sequential.specs.Petri.{PetriNet, petri_net}
use Rattle.sequential.specs.Words.{node_count, entry_value, arc_entry, arc, marking, graph}
use Rattle.graph.specs.Readable.{ArcsReadable}
use Rattle.graph.specs.Rows.{arc_entry_code, has_row, arc_entry_row}
use Rattle.graph.proofs.HasRow.{has_row_out}
use Rattle.graph.proofs.Rows.{arcs-right}
use Rattle.choice.specs.Rows.{net_by_rows, present, arc_by_row, graph_by_rows}

-- a row told whole, of values that are 0 where it ends
told-row : (row : List ℕ) (f : ℕ → ℕ) → row ≡ tabulate f 32 → ((p : ℕ) → 32 ≤ p → f p ≡ 0) → (λ p. get_or row p 0) ≡ f
told-row row f e z = fun_ext (λ p. elim (dec_lt p 32) [
  | yes l ↦ rw e (tabulate-at f 0 32 p l)
  | no l ↦ rw e (get_or-eq_default (tabulate f 32) 0 {n = p} (rw (tabulate-length f 32) (omega arith)) ∙ sym (z p (omega arith)))
])

-- a word of the row of capacities says the capacity, 0 that there is none
word-capacity : (o : Option ℕ) → ((c : ℕ) → o ≡ some c → 1 ≤ c) → when (ltb 0 (option_get_or o 0)) (option_get_or o 0) ≡ o
unfolding when
word-capacity none h = refl
word-capacity (some c) h = rw (lt-ltb 0 c (h c refl))

same-net : (P T P' T' : ℕ) (f g f' g' : ℕ → ℕ → ℕ) (s s' : ℕ → ℕ) (k k' : ℕ → Option ℕ) (m : ℕ → Bool) → P ≡ P' → T ≡ T' → f ≡ f' → g ≡ g' → s ≡ s' → k ≡ k'
    → ◌≡◌ {A = PetriNet} (record { places = P; transitions = T; taken = f; put = g; start = s; capacity = k; kept = m })
    (record { places = P'; transitions = T'; taken = f'; put = g'; start = s'; capacity = k'; kept = m })
same-net P T P' T' f g f' g' s s' k k' m a b c d e h = rw (a, b, c, d, e, h)

pub net-told : (net : List ℕ) → net_reply net ≡ Ok tt → net_by_rows net ≡ petri_net net
unfolding net_by_rows
net-told net h =
    let n = sizes net h in
    let a = accessors net h in
    same-net _ _ _ _ _ _ _ _ _ _ _ _ _ (omega arith) (omega arith)
    (fun_ext (λ t. told-row _ (taken net t) (a.takes_row t) (λ p l. taken_no_place net t p (omega arith))))
    (fun_ext (λ t. told-row _ (put net t) (a.puts_row t) (λ p l. put_no_place net t p (omega arith))))
    (told-row _ (start net) a.starts_row (λ p l. start_no_place net p (omega arith)))
    (fun_ext (λ p. rw (ap (λ (f : ℕ → ℕ). f p) (told-row _ (λ p. option_get_or (capacity net p) 0) a.capacities_row
    (λ p l. ap (λ (o : Option ℕ). option_get_or o 0) (capacity_no_place net p (omega arith))))) (word-capacity (capacity net p) (capacity-some net h p))))

-- ---- the graph

arc-of-code : (sheet : List ℕ) (o : Option ℕ) (row : List ℕ) (t : ℕ) → get_or row t 0 ≡ entry_code o → arc_by_row sheet row t ≡ option_map (entry_value sheet) o
unfolding arc_by_row present when
arc-of-code sheet none row t e = rw e
arc-of-code sheet (some i) row t e = let z : i + 1 - 1 ≡ i = omega arith in rw (e, lt-ltb 0 (i + 1) (omega arith), z)

no_node : (net sheet : List ℕ) (n : ℕ) → node_count sheet ≤ n → arc_entry_row net sheet n ≡ tabulate (λ t. 0) 32
unfolding arc_entry_row
no_node net sheet n l =
    by_test (has_row net sheet n) (λ e. let z = (has_row_out net sheet n e).node in absurd (omega arith))
    (λ e. rw e (tabulate-is (λ t. 0) 0 32 (replicate 32 0) refl (λ i k. get_or-replicate {A = ℕ} 32 i 0 0 k)))

module _ (net sheet : List ℕ) (r : ArcsReadable net sheet) where
  code-past : (n t : ℕ) → transition_count net ≤ t → arc_entry_code (petri_net net) sheet n t ≡ 0
  unfolding arc_entry_code arc_entry
  code-past n t l = rw (le-ltb t (transition_count net) l, and-false (ltb n (node_count sheet)))

  code-no-node : (n t : ℕ) → node_count sheet ≤ n → arc_entry_code (petri_net net) sheet n t ≡ 0
  unfolding arc_entry_code arc_entry
  code-no-node n t l = rw (le-ltb n (node_count sheet) l)

  code-told : (n : ℕ) → (λ t. get_or (arc_entry_row net sheet n) t 0) ≡ arc_entry_code (petri_net net) sheet n
  code-told n = elim (dec_lt n (node_count sheet)) [
    | yes l ↦ told-row (arc_entry_row net sheet n) (arc_entry_code (petri_net net) sheet n) (arcs-right net sheet r n l)
        (λ t k. code-past n t (let z = r.sizes in omega arith))
    | no l ↦ told-row (arc_entry_row net sheet n) (λ t. 0) (no_node net sheet n (omega arith)) (λ t k. refl) ∙ sym (fun_ext (λ t. code-no-node n t (omega arith)))
  ]

  arc-told : (n t : ℕ) → arc_by_row sheet (arc_entry_row net sheet n) t ≡ arc (petri_net net) sheet n t
  unfolding arc_entry_code arc
  arc-told n t = arc-of-code sheet (arc_entry (petri_net net) sheet n t) (arc_entry_row net sheet n) t (ap (λ (f : ℕ → ℕ). f t) (code-told n))

same_graph : (v T v' T' : ℕ) (f f' : ℕ → ℕ → Option ℕ) (s s' : ℕ → List ℕ) → v ≡ v' → T ≡ T' → f ≡ f' → s ≡ s'
    → ◌≡◌ {A = Automaton} (record { nodes = v; transitions = T; arc = f; label = s }) (record { nodes = v'; transitions = T'; arc = f'; label = s' })
same_graph v T v' T' f f' s s' a b c d = rw (a, b, c, d)

pub graph-told : (net sheet : List ℕ) → ArcsReadable net sheet → graph_by_rows net sheet ≡ graph (petri_net net) sheet
unfolding graph_by_rows
graph-told net sheet r =
    let k = r.sizes in
    same_graph _ _ _ _ _ _ _ _ (omega arith) (omega arith) (fun_ext (λ n. fun_ext (arc-told net sheet r n)))
    (ap (λ (N : PetriNet). marking N sheet) (net-told net r.accepted))
