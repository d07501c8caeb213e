-- The marked nodes, numbered in rising order, are the kept nodes with their new numbers.
use Rattle.scan.proofs.Basics.{ℕ, ◌+◌, ◌≤◌, ◌<◌, add-one, arith, ◌≡◌, refl, sym, ◌∙◌, ⊎_elim, Bool, true, false, List, set, replicate, length-set, length-replicate, get_or-set_other}
use Rattle.scan.specs.Scan.{bit, count}
use Rattle.scan.proofs.Tests.{lt-suc-cases}
use Rattle.scan.proofs.Count.{count-ext, count-more, bit-mark}
use Rattle.scan.proofs.Tabulate.{tabulate-at, stored_more}
use Rattle.scan.proofs.Front.{zeros}
use Rattle.automaton.specs.Automaton.{Automaton}
use Rattle.sequential.specs.Petri.{petri_net}
use Rattle.sequential.specs.Words.{node_count, graph}
use Rattle.graph.specs.Readable.{Readable}
use Rattle.graph.proofs.Readable.{arcs-accepted}
use Rattle.reach.specs.Reach.{is_marked, is_reached, reached_mark, reached_reply}
use Rattle.trimmed.specs.Trim.{is_kept, new_number}
use Rattle.trimmed.proofs.Trimmed.{kept-length, trimmed-nodes}
use Rattle.trim.specs.Tables.{rank_cell, Numbered, new_cell, NewNodes}

-- ---- the turns of the loop

pub numbered-none : (p : ℕ → Bool) → Numbered p 0 (replicate 128 0) 0
unfolding count
numbered-none p = record { size = length-replicate {A = ℕ} 128 0; found_is = refl; few = omega arith; cell = λ m l. absurd (omega arith); past = λ m l. zeros 128 m }

module _ {p : ℕ → Bool} {n : ℕ} {cells : List ℕ} {found : ℕ} (h : Numbered p n cells found) where
  pub numbered-hit : p n ≡ true → n < 128 → Numbered p (n + 1) (set cells n (found + 1)) (found + 1)
  unfolding bit
  numbered-hit e l = record {
    size = simp length-set h.size;
    found_is = sym (count-more p n ∙ rw (e, ← h.found_is) refl);
    few = omega (arith, h.few);
    cell = stored_more (rank_cell p) cells n (found + 1) h.cell (omega (arith, h.size)) (unfold rank_cell in (rw (e, ← h.found_is) refl));
    past = λ m k. get_or-set_other cells n m (found + 1) 0 (λ q. omega (arith, q)) ∙ h.past m (omega arith);
  }

  pub numbered-miss : p n ≡ false → Numbered p (n + 1) cells found
  unfolding bit
  numbered-miss e = record {
    size = h.size;
    found_is = h.found_is ∙ sym (count-more p n ∙ rw e (omega arith));
    few = omega (arith, h.few);
    cell = λ m k. ⊎_elim (λ (q : m ≡ n). rw q (h.past n (omega arith) ∙ unfold rank_cell in (rw e refl))) (λ (j : m < n). h.cell m j) (lt-suc-cases (rw (add-one n) at k));
    past = λ m k. h.past m (omega arith);
  }

-- ---- the marks are those of the kept nodes

module _ {net sheet : List ℕ} (r : Readable net sheet) where
  abbrev A : Automaton
  A = graph (petri_net net) sheet

  marked-kept : (n : ℕ) → n < 128 → is_marked (reached_reply net sheet) n ≡ is_kept (graph (petri_net net) sheet) n
  unfolding is_marked reached_reply reached_mark is_reached is_kept
  marked-kept n l = rw (arcs-accepted net sheet r.arcs, tabulate-at (reached_mark (petri_net net) sheet) 0 128 n l) (bit-mark (is_kept (graph (petri_net net) sheet) n))

  few : node_count sheet ≤ 128
  few = r.arcs.sizes.few_nodes

  pub new-nodes : {cells marks : List ℕ} {found : ℕ} → marks ≡ reached_reply net sheet → Numbered (is_marked marks) (node_count sheet) cells found → NewNodes net sheet cells found
  new-nodes {cells} {marks} {found} m h = record {
    new = record { readable = r; size = h.size; cell = λ n l. h.cell n l ∙ unfold rank_cell new_cell new_number in (rw (same n (omega (arith, few)), counts n (omega (arith, few))) refl) };
    found_is = h.found_is ∙ counts (node_count sheet) few ∙ sym (trimmed-nodes A ∙ kept-length A);
    few = omega (arith, h.few, few);
  }
    where
      same : (n : ℕ) → n < 128 → is_marked marks n ≡ is_kept A n
      same n l = rw m (marked-kept n l)

      counts : (n : ℕ) → n ≤ 128 → count (is_marked marks) n ≡ count (is_kept A) n
      counts n l = count-ext (is_marked marks) (is_kept A) n (λ i k. same i (omega arith))
