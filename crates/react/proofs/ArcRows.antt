-- The arcs of a node are the entries from its start to the next, in the order of their transitions.
use Rattle.scan.proofs.Basics.{ℕ, zero, suc, ◌+◌, ◌*◌, ◌-◌, ◌≤◌, ◌<◌, arith, ◌≡◌, subst, sym, ap, ◌∙◌, none, some, List, length, get_or, set, get_or-set_same, get_or-set_other}
use native.Mathlib.Nat.{div-add-mod'}
use Rattle.scan.proofs.Tests.{by_equal, by_less, lt-ltb}
use Rattle.table.specs.Table.{key_at, Rising}
use Rattle.table.specs.Bisection.{lower_bound}
use Rattle.table.proofs.Table.{rising, entry_at}
use Rattle.table.proofs.Bisection.{LowerBound}
use Rattle.automaton.specs.Automaton.{Closed}
use Rattle.automaton.proofs.Automaton.{arc-cases, arc-transition}
use Rattle.net.specs.Net.{transition_count}
use Rattle.sequential.specs.Petri.{petri_net}
use Rattle.sequential.specs.Words.{node_count, entry_count, entry_key, entry_value, entry_with_key, arc_entry, arc, arc_node, arc_transition, arc_keys}
use Rattle.sequential.proofs.Words.{words-rise}
use Rattle.sequential.proofs.Entries.{arc-entry}
use Rattle.sequential.proofs.Accepted.{closed}
use Rattle.graph.specs.Readable.{ArcsReadable}
use Rattle.graph.specs.Rows.{arcs_start, arc_count_reply}
use Rattle.graph.proofs.Starts.{arcs-start-is}
use Rattle.graph.proofs.Bounds.{start-bound}
use Rattle.graph.proofs.ArcCount.{arc-count-is}
use Rattle.judge.proofs.Judged.{accepted-readable}
use Rattle.reaction.specs.Call.{sheet_graph}
use Rattle.react.specs.Rows.{IsNode, Starts, ArcOf, Mapped}

module _ {net sheet : List ℕ} (r : ArcsReadable net sheet) where
  -- every node has its start, and behind the last one all arcs end
  pub starts-all : (starts : List ℕ) → length starts ≡ 129 → ((n : ℕ) → n < node_count sheet → get_or starts n 0 ≡ lower_bound sheet 2 (entry_count sheet) (n * transition_count net))
      → {last : ℕ} → last ≡ arc_count_reply net sheet → Starts net sheet (set starts (node_count sheet) last)
  unfolding arc_keys
  starts-all starts long h {last} e = record {
    at = λ n l. by_equal n (node_count sheet)
        (λ q. rw q (get_or-set_same starts (node_count sheet) last 0 (omega (arith, r.sizes.few_nodes)) ∙ e ∙ arc-count-is net sheet r))
        (λ d. get_or-set_other starts (node_count sheet) n last 0 d ∙ h n (omega arith));
  }

-- entry i, at which a loop from the start of node n to its end is
pub in_row : {starts : List ℕ} {n i end : ℕ} → get_or starts n 0 ≤ i → i < end → end ≡ get_or starts (n + 1) 0 → ArcOf starts n i
in_row b k e = record { begun = b; ends = omega (arith, e) }

module _ {net sheet starts : List ℕ} (m : Mapped net sheet starts) where
  pub readable : ArcsReadable net sheet
  readable = (accepted-readable net sheet m.accepted).arcs

  pub whole : Closed (sheet_graph net sheet)
  whole = closed net sheet m.accepted

  pub few_nodes : node_count sheet ≤ 128
  few_nodes = readable.sizes.few_nodes

  pub few_transitions : transition_count net ≤ 32
  few_transitions = readable.sizes.few_transitions

  up : Rising sheet 2 (entry_count sheet)
  up = words-rise (petri_net net) sheet readable.holds

  -- where the arcs of node n begin
  bound : (n : ℕ) → n ≤ node_count sheet → LowerBound sheet 2 (entry_count sheet) (n * transition_count net) (get_or starts n 0)
  bound n l = rw (m.starts_are.at n l) (start-bound readable (n * transition_count net))

  module _ {n : ℕ} (l : IsNode sheet n) where
    next_row : (n + 1) * transition_count net ≡ n * transition_count net + transition_count net
    next_row = omega arith

    -- ---- an entry of the row

    module _ {i : ℕ} (a : ArcOf starts n i) where
      pub is-entry : i < entry_count sheet
      is-entry = omega (arith, (bound (n + 1) (omega arith)).within, a.ends)

      pub key-low : n * transition_count net ≤ entry_key sheet i
      unfolding entry_key
      key-low = (bound n (omega arith)).above i a.begun is-entry

      pub key-high : entry_key sheet i < n * transition_count net + transition_count net
      unfolding entry_key
      key-high = omega (arith, (bound (n + 1) (omega arith)).below i a.ends, next_row)

      pub arc-at : (t : ℕ) → entry_key sheet i ≡ n * transition_count net + t → (sheet_graph net sheet).arc n t ≡ some (entry_value sheet i)
      unfolding arc arc_entry entry_with_key entry_key
      arc-at t e =
          let k : t < transition_count net = omega (arith, key-high) in
          rw (lt-ltb n (node_count sheet) l, lt-ltb t (transition_count net) k, entry_at sheet 2 (entry_count sheet) up i _ is-entry e)

      pub leads : IsNode sheet (entry_value sheet i)
      leads = whole.lands n (entry_key sheet i - n * transition_count net) (entry_value sheet i) l (arc-at _ (omega (arith, key-low)))

    -- ---- an arc of the graph

    pub arc-of : (t x : ℕ) → (sheet_graph net sheet).arc n t ≡ some x → (i : ℕ) × ArcOf starts n i × (entry_key sheet i ≡ n * transition_count net + t) × (entry_value sheet i ≡ x)
    unfolding entry_key arc_node arc_transition
    arc-of t x e =
        let (i, a) = arc-entry (petri_net net) sheet readable.sizes.some_transition readable.holds n t x e in
        let k : key_at sheet 2 i ≡ n * transition_count net + t = key-is i a.node a.transition in
        let b = bound n (omega arith) in
        let d = bound (n + 1) (omega arith) in
        let w = arc-transition (sheet_graph net sheet) whole n t x e in (
          i,
          record {
            begun = by_less i (get_or starts n 0) (λ q. absurd (let z = b.below i q in omega arith)) (λ q. q);
            ends = by_less i (get_or starts (n + 1) 0) (λ q. q) (λ q. absurd (let z = d.above i q a.entry in omega (arith, next_row)));
          },
          k,
          a.target,
        )
      where
        key-is : (i : ℕ) → arc_node (petri_net net) sheet i ≡ n → arc_transition (petri_net net) sheet i ≡ t → key_at sheet 2 i ≡ n * transition_count net + t
        key-is i p q = sym (div-add-mod' (key_at sheet 2 i) (transition_count net)) ∙ rw (p, q)

  -- ---- what the code reads

  pub end-most : (n : ℕ) → n ≤ node_count sheet → get_or starts n 0 ≤ 4096
  end-most n l = omega (arith, (bound n l).within, readable.sizes.few_entries)

  pub rises : {n : ℕ} → IsNode sheet n → get_or starts n 0 ≤ get_or starts (n + 1) 0
  rises {n} l = by_less (get_or starts (n + 1) 0) (get_or starts n 0)
      (λ q. absurd (let x = bound n (omega arith) in let y = bound (n + 1) (omega arith) in
      let z = x.below (get_or starts (n + 1) 0) q in let v = y.above (get_or starts (n + 1) 0) (omega arith) (omega (arith, x.within)) in omega arith)) (λ q. q)

  pub target_low : {n : ℕ} → IsNode sheet n → {i : ℕ} → ArcOf starts n i → {x : ℕ} → x ≡ entry_value sheet i → x < 128
  target_low l a e = omega (arith, e, leads l a, few_nodes)

  pub first_key_lem : {n : ℕ} → IsNode sheet n → arcs_start net n ≡ n * transition_count net
  first_key_lem {n} l = arcs-start-is net n (omega (arith, few_nodes)) readable.sizes.some_transition few_transitions

-- ---- a walk over a row

-- what holds of the transitions below u holds of those below t, where each between them is passed over
pub passes : (P : ℕ → Type 0) (u t : ℕ) → u ≤ t → ((v : ℕ) → u ≤ v → v < t → P v → P (v + 1)) → P u → P t
passes P u zero l h p = let q : u ≡ 0 = omega arith in subst P q p
passes P u (suc t) l h p = by_less t u
    (λ k. let q : u ≡ suc t = omega arith in subst P q p)
    (λ k. let q : t + 1 ≡ suc t = omega arith in subst P q (h t k (omega arith) (passes P u t k (λ v a b. h v a (omega arith)) p)))

-- the entries of node n before entry i are its arcs by the transitions below u
pub record Walked (net sheet starts : List ℕ) (n i u : ℕ) : Type 0 where
  pub begun : get_or starts n 0 ≤ i
  pub few : u ≤ transition_count net
  pub before : (j : ℕ) → ArcOf starts n j → j < i → entry_key sheet j < n * transition_count net + u
  pub after : (j : ℕ) → ArcOf starts n j → i ≤ j → n * transition_count net + u ≤ entry_key sheet j

module _ {net sheet starts : List ℕ} (m : Mapped net sheet starts) {n : ℕ} (l : IsNode sheet n) where
  pub walk_start : Walked net sheet starts n (get_or starts n 0) 0
  walk_start = record {
    begun = omega arith;
    few = omega arith;
    before = λ j a k. absurd (omega (arith, a.begun));
    after = λ j a k. omega (arith, key-low m l a);
  }

  module _ {i u : ℕ} (w : Walked net sheet starts n i u) where
    -- behind the last entry no transition has an arc
    pub walk_end : get_or starts (n + 1) 0 ≤ i → (v : ℕ) → u ≤ v → (sheet_graph net sheet).arc n v ≡ none
    walk_end e v h = arc-cases ((sheet_graph net sheet).arc n v) (λ q. q)
        (λ x q. let (j, a, k, y) = arc-of m l v x q in let z = w.before j a (omega (arith, a.ends)) in absurd (omega arith))

    module _ (a : ArcOf starts n i) (t : ℕ) (e : entry_key sheet i ≡ n * transition_count net + t) where
      pub walk-reach : u ≤ t
      walk-reach = let z = w.after i a (omega arith) in omega arith

      later : (j : ℕ) → ArcOf starts n j → i < j → entry_key sheet i < entry_key sheet j
      unfolding entry_key
      later j b k = rising sheet 2 (entry_count sheet) (words-rise (petri_net net) sheet (readable m).holds) i j k (is-entry m l b)

      -- nor any between the last one and the next
      pub walk-gap : (v : ℕ) → u ≤ v → v < t → (sheet_graph net sheet).arc n v ≡ none
      walk-gap v h k = arc-cases ((sheet_graph net sheet).arc n v) (λ q. q) (λ x q. let (j, b, f, y) = arc-of m l v x q in absurd (clash j b f))
        where
          clash : (j : ℕ) → ArcOf starts n j → entry_key sheet j ≡ n * transition_count net + v → ⊥
          clash j b f = by_less j i (λ d. let z = w.before j b d in omega arith) (λ d. by_less i j (λ g. let z = later j b g in omega arith)
              (λ g. let q : j ≡ i = omega arith in let z : entry_key sheet j ≡ entry_key sheet i = ap (entry_key sheet) q in omega arith))

      pub walk_more : Walked net sheet starts n (i + 1) (t + 1)
      walk_more = record {
        begun = omega (arith, a.begun);
        few = omega (arith, key-high m l a);
        before = λ j b k. by_less j i (λ d. let z = w.before j b d in omega (arith, walk-reach))
            (λ d. let q : j ≡ i = omega arith in let z : entry_key sheet j ≡ entry_key sheet i = ap (entry_key sheet) q in omega arith);
        after = λ j b k. let z = later j b (omega arith) in omega arith;
      }
