-- The look-up of a firing's arc: a guess whose key is the arc's is its entry, and what is looked up lies in the node's row.
use Rattle.std.specs.Prelude.{None, Some}
use Rattle.scan.proofs.Basics.{ℕ, ◌+◌, ◌*◌, ◌≤◌, ◌<◌, arith, ◌≡◌, refl, sym, ap, ◌∙◌, some, List, get_or, set, replicate, length-set, get_or-set_same, get_or-set_other}
use native.Mathlib.Decide.{dec_lt}
use native.Mathlib.Nat.{mul-le-mul}
use lib.ListN.{get_or-replicate}
use Rattle.scan.proofs.Tests.{lt-ltb, le-ltb}
use Rattle.table.specs.Table.{key_at}
use Rattle.table.specs.Bisection.{found_of}
use Rattle.table.proofs.Table.{entry_at}
use Rattle.net.specs.Net.{transition_count}
use Rattle.sequential.specs.Petri.{petri_net}
use Rattle.sequential.specs.Words.{node_count, entry_count, entry_key, entry_value, entry_with_key, arc_entry}
use Rattle.sequential.proofs.Words.{words-rise}
use Rattle.graph.specs.Readable.{ArcsReadable}
use Rattle.graph.specs.Rows.{arcs_start}
use Rattle.graph.specs.LookUp.{arc_look_up}
use Rattle.graph.proofs.Starts.{arcs-start-is}
use Rattle.graph.proofs.LookUp.{look-up-right, arc-found}
use Rattle.graph.proofs.Bounds.{start-bound, bound-low}
use Rattle.schedule.proofs.Walks.{target-node, entry_key_lem}
use Rattle.replay.specs.LookUp.{FirstKeys, LooksUp, Ranks, EntryThere}

module _ {net sheet : List ℕ} (r : ArcsReadable net sheet) where
  pub first-low : {keys : List ℕ} → FirstKeys net sheet keys → (n : ℕ) → n < node_count sheet → get_or keys n 0 ≤ 4096
  first-low k n l =
      let s = r.sizes in
      let h : n ≤ 128 = omega arith in
      let m = mul-le-mul h s.few_transitions in
      omega (arith, k.key n l, arcs-start-is net n (omega arith) s.some_transition s.few_transitions, m)

module _ {net sheet keys starts : List ℕ} {transitions node : ℕ} (w : LooksUp net sheet keys starts transitions node) where
  node_low : node < 128
  node_low = omega (arith, w.at_node, w.readable.sizes.few_nodes)

  first_key_lem : arcs_start net node ≡ node * transition_count net
  first_key_lem = arcs-start-is net node node_low w.readable.sizes.some_transition w.readable.sizes.few_transitions

  -- ---- what is read

  pub key-low : get_or keys node 0 ≤ 4096
  key-low = first-low w.readable w.keys_are node w.at_node

  pub start-low : get_or starts node 0 ≤ 4096
  start-low = bound-low w.readable (arcs_start net node) (w.starts_are.start node w.at_node)

  module _ (t : ℕ) where
    pub no-transition : transitions ≤ t → None ≡ arc_look_up net sheet node t
    unfolding arc_look_up
    no-transition l = rw (le-ltb t (transition_count net) (omega (arith, w.all)))

    -- ---- the guess

    pub guess-hit : {guess : ℕ} → t < transitions → guess < get_or sheet 1 0 → get_or sheet (2 + guess) 0 ≡ get_or keys node 0 + t → Some guess ≡ arc_look_up net sheet node t
    unfolding arc_entry entry_with_key key_at
    guess-hit {guess} l m e =
        let k : get_or sheet (2 + guess) 0 ≡ node * transition_count net + t = omega (arith, e, w.keys_are.key node w.at_node, first_key_lem) in
        let q : arc_entry (petri_net net) sheet node t ≡ some guess =
        rw (lt-ltb node (node_count sheet) w.at_node, lt-ltb t (transition_count net) (omega (arith, w.all)))
        (entry_at sheet 2 (entry_count sheet) (words-rise (petri_net net) sheet w.readable.holds) guess _ m k) in
        sym (look-up-right net sheet w.readable node t ∙ ap found_of q)

    -- ---- what is looked up

    pub in_row : {e : ℕ} → arc_look_up net sheet node t ≡ Some e → (get_or starts node 0 ≤ e) × (e ≤ 4096)
    unfolding entry_key
    in_row {e} h =
        let (l, k) = entry_key_lem (petri_net net) sheet node t e (arc-found net sheet w.readable node t e h) in
        let b = start-bound w.readable (arcs_start net node) in
        let q = w.starts_are.start node w.at_node in (
          elim (dec_lt e (get_or starts node 0)) [ yes m ↦ absurd (let a = b.below e (omega (arith, q)) in omega (arith, k, first_key_lem)) | no m ↦ omega arith ],
          omega (arith, l, w.readable.sizes.few_entries),
        )

    -- it is there, and leads to a node
    module _ {e : ℕ} (h : arc_look_up net sheet node t ≡ Some e) where
      pub entry-there : EntryThere sheet e
      entry-there = record { whole = w.readable.sizes.long; there = (entry_key_lem (petri_net net) sheet node t e (arc-found net sheet w.readable node t e h)).0 }

      pub looks_on : {m : ℕ} → m ≡ entry_value sheet e → LooksUp net sheet keys starts transitions m
      looks_on q =
          let s = w.readable.sizes in
          let l = target-node (petri_net net) sheet node t s.some_transition w.readable.holds w.at_node e (arc-found net sheet w.readable node t e h) in
          record { readable = w.readable; keys_are = w.keys_are; starts_are = w.starts_are; all = w.all; at_node = omega (arith, q, l) }

-- a rank stored
pub ranked : {ranks : List ℕ} (t : ℕ) {v : ℕ} → Ranks ranks → v ≤ 4096 → Ranks (set ranks t v)
ranked {ranks} t {v} r l = record {
  long = length-set ranks t v ∙ r.long;
  low = λ k m. elim (dec_lt k t) [
    | yes a ↦ omega (arith, get_or-set_other ranks t k v 0 (λ q. omega arith), r.low k m)
    | no a ↦ elim (dec_lt t k) [
      | yes b ↦ omega (arith, get_or-set_other ranks t k v 0 (λ q. omega arith), r.low k m)
      | no b ↦ let q : k ≡ t = omega arith in rw q (omega (arith, get_or-set_same ranks t v 0 (omega (arith, r.long))))
    ]
  ];
}

-- none is known yet
pub unranked : Ranks (replicate 32 0)
unranked = record { long = refl; low = λ t l. omega (arith, get_or-replicate {A = ℕ} 32 t 0 0 l) }
