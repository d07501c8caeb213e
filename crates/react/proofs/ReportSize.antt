-- How long the report is: two words for each arc of an await node.
use Rattle.scan.proofs.Basics.{ℕ, zero, suc, ◌+◌, ◌*◌, ◌-◌, ◌≤◌, ◌<◌, arith, ◌≡◌, refl, sym, ap, ◌∙◌, true, false, List, length, get_or}
use Rattle.net.specs.Net.{transition_count}
use Rattle.sequential.specs.Words.{node_count, entry_key}
use Rattle.reaction.specs.Words.{strung, row_at, report}
use Rattle.reaction.specs.Call.{sheet_await, report_words}
use Rattle.react.specs.Rows.{IsNode, ArcOf, Mapped}
use Rattle.react.specs.Report.{row_words, SizeTold}
use Rattle.react.proofs.ArcRows.{key-low, arc-at, rises, end-most, Walked, walk_start, walk_end, walk-reach, walk-gap, walk_more}
use Rattle.react.proofs.RowPairs.{strung-long, pairs, skip, row-busy, pair-some, rows_of}

-- ---- how long a row is: two words for each arc

module _ {net sheet starts : List ℕ} (m : Mapped net sheet starts) (words : List ℕ) {n : ℕ} (l : IsNode sheet n) (w : sheet_await net sheet n ≡ true) where
  walk-long : (d : ℕ) → get_or starts n 0 + d ≤ get_or starts (n + 1) 0 → (u : ℕ) × Walked net sheet starts n (get_or starts n 0 + d) u × (length (strung (pairs net sheet words n) u) ≡ 2 * d)
  walk-long zero k = let q : get_or starts n 0 + 0 ≡ get_or starts n 0 = omega arith in rw q (0, walk_start m l, unfold strung in refl)
  walk-long (suc d) k =
      let (u, g, e) = walk-long d (omega arith) in
      let a : ArcOf starts n (get_or starts n 0 + d) = record { begun = omega arith; ends = omega arith } in
      let t = entry_key sheet (get_or starts n 0 + d) - n * transition_count net in
      let h : entry_key sheet (get_or starts n 0 + d) ≡ n * transition_count net + t = omega (arith, key-low m l a) in
      let s = skip net sheet words n u t (walk-reach m l g a t h) (walk-gap m l g a t h) in
      let p = pair-some net sheet words n w t _ (arc-at m l a t h) in
      let q : get_or starts n 0 + d + 1 ≡ get_or starts n 0 + suc d = omega arith in
      (t + 1, rw q at (walk_more m l g a t h), strung-long (pairs net sheet words n) t ∙ rw (s, e, p) (omega arith))

  row-long : length (row_words net sheet words n) ≡ 2 * (get_or starts (n + 1) 0 - get_or starts n 0)
  unfolding row_at
  row-long =
      let d = get_or starts (n + 1) 0 - get_or starts n 0 in
      let q : get_or starts n 0 + d ≡ get_or starts (n + 1) 0 = omega (arith, rises m l) in
      let (u, g, e) = walk-long d (omega arith) in
      ap length (skip net sheet words n u (transition_count net) g.few (λ v a b. walk_end m l g (omega arith) v a)) ∙ e

-- ---- how long all are: the nodes below n

pub record Sizing (net sheet starts : List ℕ) (nodes size n : ℕ) : Type 0 where
  pub mapped : Mapped net sheet starts
  pub nodes_are : nodes ≡ node_count sheet
  pub bound : n ≤ nodes
  pub few : size ≤ n * 8192
  pub told : (words : List ℕ) → size ≡ length (rows_of net sheet words n)

pub size-start : {net sheet starts : List ℕ} {nodes : ℕ} → Mapped net sheet starts → nodes ≡ node_count sheet → Sizing net sheet starts nodes 0 0
unfolding strung
size-start m s = record { mapped = m; nodes_are = s; bound = omega arith; few = omega arith; told = λ words. refl }

module _ {net sheet starts : List ℕ} {nodes size n : ℕ} (g : Sizing net sheet starts nodes size n) where
  pub size-end : nodes ≤ n → SizeTold net sheet size
  unfolding report_words report
  size-end l words = let q : n ≡ node_count sheet = omega (arith, g.nodes_are, g.bound) in rw q at (g.told words)

  module _ (k : n < nodes) where
    pub size-node : IsNode sheet n
    size-node = omega (arith, g.nodes_are)

    row-next : (words : List ℕ) → length (rows_of net sheet words (n + 1)) ≡ size + length (row_words net sheet words n)
    row-next words = strung-long (row_words net sheet words) n ∙ ap (◌+ length (row_words net sheet words n)) (sym (g.told words))

    pub size-busy : sheet_await net sheet n ≡ false → Sizing net sheet starts nodes size (n + 1)
    size-busy b = record {
      mapped = g.mapped;
      nodes_are = g.nodes_are;
      bound = omega arith;
      few = omega (arith, g.few);
      told = λ words. let y = ap length (row-busy net sheet words n b) in omega (arith, row-next words);
    }

    pub size-fits : size + 2 * get_or starts (n + 1) 0 ≤ (n + 1) * 8192
    size-fits = omega (arith, g.few, end-most g.mapped (n + 1) (omega (arith, size-node)))

    pub size-await : sheet_await net sheet n ≡ true → Sizing net sheet starts nodes (size + 2 * (get_or starts (n + 1) 0 - get_or starts n 0)) (n + 1)
    size-await w = record {
      mapped = g.mapped;
      nodes_are = g.nodes_are;
      bound = omega arith;
      few = omega (arith, size-fits);
      told = λ words. let y = row-long g.mapped words size-node w in omega (arith, row-next words);
    }
