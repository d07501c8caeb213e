-- An entry as the code reads it: whether it is an arc, the cell of its node, and what it becomes.
use Rattle.scan.proofs.Basics.{ℕ, ◌+◌, ◌-◌, ◌*◌, ◌/◌, ◌%◌, ◌≤◌, ◌<◌, arith, ◌≡◌, refl, ◌∙◌, true, false, List, get_or}
use Rattle.scan.proofs.Tests.{lt-ltb, le-ltb, by_test}
use Rattle.table.specs.Table.{key_at, value_at}
use Rattle.net.specs.Net.{place_count, transition_count}
use Rattle.automaton.specs.Automaton.{Automaton}
use Rattle.sequential.specs.Petri.{PetriNet, petri_net}
use Rattle.sequential.specs.Words.{node_count, entry_count, entry_key, entry_value, arc_keys, graph, is_arc, arc_node, arc_transition}
use Rattle.sequential.proofs.Entries.{entry-target}
use Rattle.graph.proofs.Readable.{words}
use Rattle.trimmed.specs.Trim.{is_kept, new_number}
use Rattle.trimmed.specs.Entries.{count_node, count_place, entry_node, entry_kept, new_key, new_value}
use Rattle.trimmed.proofs.Moved.{entry-below, target-kept}
use Rattle.trim.specs.Tables.{new_cell, NewCells, NewNodes, KeptEntry}

module _ {net sheet cells : List ℕ} (h : NewCells net sheet cells) {i : ℕ} (l : i < entry_count sheet) {t : ℕ} (et : t ≡ transition_count net) where
  abbrev N : PetriNet
  N = petri_net net

  abbrev A : Automaton
  A = graph (petri_net net) sheet

  below : entry_node N sheet i < node_count sheet
  below = entry-below N sheet h.readable.arcs.sizes.some_transition h.readable.arcs.sizes.some_place (words net sheet h.readable) i l

  cell : {n : ℕ} → entry_node (petri_net net) sheet i ≡ n → (n < 128) × (get_or cells n 0 ≡ new_cell (graph (petri_net net) sheet) (entry_node (petri_net net) sheet i))
  cell e = rw (← e) (omega (arith, below, h.readable.arcs.sizes.few_nodes), h.cell _ below)

  -- ---- an arc's

  module _ (a : get_or sheet (2 + i) 0 < get_or sheet 0 0 * t) where
    arc-is : is_arc (petri_net net) sheet i ≡ true
    unfolding is_arc arc_keys entry_key key_at
    arc-is = lt-ltb _ _ (rw et at a)

    arc-node : entry_node (petri_net net) sheet i ≡ get_or sheet (2 + i) 0 / t
    unfolding entry_node arc_node entry_key key_at
    arc-node = rw (arc-is, et) refl

    pub arc-cell : (get_or sheet (2 + i) 0 / t < 128) × (get_or cells (get_or sheet (2 + i) 0 / t) 0 ≡ new_cell (graph (petri_net net) sheet) (entry_node (petri_net net) sheet i))
    arc-cell = cell arc-node

  -- ---- a count's

  module _ {p : ℕ} (ep : p ≡ place_count net) (a : get_or sheet 0 0 * t ≤ get_or sheet (2 + i) 0) where
    count-is : is_arc (petri_net net) sheet i ≡ false
    unfolding is_arc arc_keys entry_key key_at
    count-is = le-ltb _ _ (rw et at a)

    count-node : entry_node (petri_net net) sheet i ≡ (get_or sheet (2 + i) 0 - get_or sheet 0 0 * t) / p
    unfolding entry_node count_node arc_keys entry_key key_at
    count-node = rw (count-is, et, ep) refl

    pub count-cell : ((get_or sheet (2 + i) 0 - get_or sheet 0 0 * t) / p < 128)
        × (get_or cells ((get_or sheet (2 + i) 0 - get_or sheet 0 0 * t) / p) 0 ≡ new_cell (graph (petri_net net) sheet) (entry_node (petri_net net) sheet i))
    count-cell = cell count-node

-- ---- what a cell tells of its node

module _ (A : Automaton) (n : ℕ) where
  kept-cell : is_kept A n ≡ true → new_cell A n ≡ new_number A n + 1
  unfolding new_cell
  kept-cell e = rw e refl

  dropped-cell : is_kept A n ≡ false → new_cell A n ≡ 0
  unfolding new_cell
  dropped-cell e = rw e refl

  module _ {r : ℕ} (e : r ≡ new_cell A n) where
    pub cell-kept : 0 < r → is_kept A n ≡ true
    cell-kept l = by_test (is_kept A n) (λ k. k) (λ k. absurd (omega (arith, e, dropped-cell k)))

    pub cell-dropped : r ≤ 0 → is_kept A n ≡ false
    cell-dropped l = by_test (is_kept A n) (λ k. absurd (omega (arith, e, kept-cell k))) (λ k. k)

-- of the node that an entry is of
module _ (net sheet : List ℕ) (i : ℕ) {r : ℕ} (e : r ≡ new_cell (graph (petri_net net) sheet) (entry_node (petri_net net) sheet i)) where
  pub entry_kept_lem : 0 < r → entry_kept (petri_net net) sheet i ≡ true
  unfolding entry_kept
  entry_kept_lem k = cell-kept _ _ e k

  pub entry-dropped : r ≤ 0 → entry_kept (petri_net net) sheet i ≡ false
  unfolding entry_kept
  entry-dropped k = cell-dropped _ _ e k

-- ---- what a kept entry becomes

module _ {net sheet cells : List ℕ} {found i : ℕ} (h : NewNodes net sheet cells found) (k : KeptEntry net sheet i) {r : ℕ}
    (e : r ≡ new_cell (graph (petri_net net) sheet) (entry_node (petri_net net) sheet i)) where
  cell-is : r ≡ new_number (graph (petri_net net) sheet) (entry_node (petri_net net) sheet i) + 1
  cell-is = e ∙ kept-cell (graph (petri_net net) sheet) (entry_node (petri_net net) sheet i) (unfold entry_kept in k.kept)

  pub number-some : 1 ≤ r
  number-some = omega (arith, cell-is)

  number_is : r - 1 ≡ new_number (graph (petri_net net) sheet) (entry_node (petri_net net) sheet i)
  number_is = omega (arith, cell-is)

  module _ {t : ℕ} (et : t ≡ transition_count net) where
    pub key-arc : get_or sheet (2 + i) 0 < get_or sheet 0 0 * t → (r - 1) * t + get_or sheet (2 + i) 0 % t ≡ new_key (petri_net net) sheet i
    unfolding new_key arc_transition entry_key key_at
    key-arc a = rw (arc-is h.new k.entry et a, number_is, et) refl

    pub key-count : {p : ℕ} → p ≡ place_count net → get_or sheet 0 0 * t ≤ get_or sheet (2 + i) 0
        → found * t + (r - 1) * p + (get_or sheet (2 + i) 0 - get_or sheet 0 0 * t) % p ≡ new_key (petri_net net) sheet i
    unfolding new_key count_place arc_keys entry_key key_at
    key-count ep a = rw (count-is h.new k.entry et ep a, number_is, h.found_is, et, ep) refl

-- ---- its value

module _ {net sheet cells : List ℕ} {i : ℕ} (h : NewCells net sheet cells) (k : KeptEntry net sheet i) {t : ℕ} (et : t ≡ transition_count net) where
  abbrev value : ℕ
  value = get_or sheet (2 + get_or sheet 1 0 + i) 0

  module _ (a : get_or sheet (2 + i) 0 < get_or sheet 0 0 * t) where
    arc : is_arc (petri_net net) sheet i ≡ true
    arc = arc-is h k.entry et a

    target_below : get_or sheet (2 + get_or sheet 1 0 + i) 0 < node_count sheet
    target_below =
        let sizes = h.readable.arcs.sizes in
        unfold entry_value value_at in (entry-target (petri_net net) sheet sizes.some_transition h.readable.arcs.holds i k.entry arc)

    pub target_low : get_or sheet (2 + get_or sheet 1 0 + i) 0 < 128
    target_low = omega (arith, target_below, h.readable.arcs.sizes.few_nodes)

    pub target-cell : get_or cells (get_or sheet (2 + get_or sheet 1 0 + i) 0) 0 ≡ new_value (petri_net net) sheet i + 1
    unfolding new_value entry_value value_at
    target-cell =
        let sizes = h.readable.arcs.sizes in
        let q = target-kept (petri_net net) sheet sizes.some_transition sizes.some_place (words net sheet h.readable) i k.entry arc k.kept in
        h.cell value target_below ∙ kept-cell (graph (petri_net net) sheet) value q ∙ rw arc refl

  pub value_stays : get_or sheet 0 0 * t ≤ get_or sheet (2 + i) 0 → get_or sheet (2 + get_or sheet 1 0 + i) 0 ≡ new_value (petri_net net) sheet i
  unfolding new_value entry_value value_at
  value_stays a = rw (count-is h k.entry et refl a) refl
