-- The trimmed graph is the graph cut down to its reached nodes; a graph whose nodes are all reached is its own trimmed one.
use Rattle.scan.proofs.Basics.{ℕ, ◌<◌, ◌≤◌, arith, ◌≡◌, refl, sym, ap, ◌∙◌, ◌↔◌, true, some, option_map, length, get_or}
use Rattle.scan.specs.Scan.{count, tabulate}
use Rattle.scan.proofs.Tests.{lt-ltb, le-ltb, by_less}
use Rattle.scan.proofs.Count.{count-full, count-le}
use Rattle.scan.proofs.Tabulate.{tabulate-is}
use Rattle.automaton.specs.Automaton.{Automaton, Closed, SameLists}
use Rattle.automaton.specs.Reach.{Reachable}
use Rattle.automaton.specs.Quotient.{Confined}
use Rattle.automaton.proofs.Automaton.{arc-cases}
use Rattle.automaton.proofs.Reach.{reachable-node, root-reachable, reached↔reachable}
use Rattle.automaton.proofs.Carried.{Carries, carried-root, carried-reached, carried-lands}
use Rattle.trimmed.specs.Trim.{is_kept, old_numbers, new_number, trimmed_graph, Trimming, ListsReached}
use Rattle.trimmed.proofs.Rank.{Ranked, listed-length, rank_less, listed_at, ranked, ranked-at, listed-rising, listed-all}

-- ---- new nodes and what they have

module _ (A : Automaton) where
  pub kept-length : length (old_numbers A) ≡ count (is_kept A) A.nodes
  unfolding old_numbers
  kept-length = listed-length (is_kept A) A.nodes

  pub nodes-few : length (old_numbers A) ≤ A.nodes
  nodes-few = omega (arith, kept-length, count-le (is_kept A) A.nodes)

  pub trimmed-nodes : (trimmed_graph A).nodes ≡ length (old_numbers A)
  unfolding trimmed_graph
  trimmed-nodes = refl

  pub trimmed-transitions : (trimmed_graph A).transitions ≡ A.transitions
  unfolding trimmed_graph
  trimmed-transitions = refl

  pub trimmed-arc : (i t : ℕ) → i < (trimmed_graph A).nodes → (trimmed_graph A).arc i t ≡ option_map (new_number A) (A.arc (get_or (old_numbers A) i 0) t)
  unfolding trimmed_graph
  trimmed-arc i t l = rw (lt-ltb i (length (old_numbers A)) l)

  pub trimmed-label : (i : ℕ) → i < (trimmed_graph A).nodes → (trimmed_graph A).label i ≡ A.label (get_or (old_numbers A) i 0)
  unfolding trimmed_graph
  trimmed-label i l = rw (lt-ltb i (length (old_numbers A)) l)

  pub trimmed-confined : Confined (trimmed_graph A)
  unfolding trimmed_graph
  trimmed-confined = record { arcs = λ i t l. rw (le-ltb i (length (old_numbers A)) l); labels = λ i l. rw (le-ltb i (length (old_numbers A)) l) }

  -- the old node of a new one
  pub old-ranked : (i : ℕ) → i < (trimmed_graph A).nodes → (r : Ranked (is_kept A) A.nodes i) × (get_or (old_numbers A) i 0 ≡ r.index)
  unfolding trimmed_graph old_numbers
  old-ranked i l =
      let k : i < count (is_kept A) A.nodes = omega (arith, listed-length (is_kept A) A.nodes) in
      (ranked (is_kept A) A.nodes i k, ranked-at (is_kept A) A.nodes i k)

  pub old-node : (i : ℕ) → i < (trimmed_graph A).nodes → get_or (old_numbers A) i 0 < A.nodes
  old-node i l = let (r, e) = old-ranked i l in rw e r.below

  pub old-rising : (i j : ℕ) → i < j → j < length (old_numbers A) → get_or (old_numbers A) i 0 < get_or (old_numbers A) j 0
  unfolding old_numbers
  old-rising i j l h = listed-rising (is_kept A) A.nodes i j l (omega (arith, listed-length (is_kept A) A.nodes))

pub trimming-carries : {A M : Automaton} {f : ℕ → ℕ} → Trimming A M f → Carries A M f
trimming-carries Q = record { root = Q.root; node = Q.node; onto = Q.onto; arcs = Q.arcs; labels = Q.labels }

module _ (A : Automaton) (c : Closed A) where
  pub kept↔ : (n : ℕ) → (is_kept A n ≡ true) ↔ Reachable A n
  unfolding is_kept
  kept↔ n = reached↔reachable A c n

  -- a kept node's number is a new node, and that one's old number is the node
  new-node : (n : ℕ) → Reachable A n → new_number A n < (trimmed_graph A).nodes
  unfolding new_number
  new-node n r = rw (trimmed-nodes A, kept-length A) (rank_less (is_kept A) A.nodes n (reachable-node A c n r) ((kept↔ n).1 r))

  pub old-of-new : (n : ℕ) → Reachable A n → get_or (old_numbers A) (new_number A n) 0 ≡ n
  unfolding old_numbers new_number
  old-of-new n r = listed_at (is_kept A) A.nodes n (reachable-node A c n r) ((kept↔ n).1 r)

  -- ---- it is the graph cut down

  pub trimming : Trimming A (trimmed_graph A) (new_number A)
  trimming = record {
    root = unfold new_number count in refl;
    node = new-node;
    onto = λ i l. let (r, e) = old-ranked A i l in (r.index, (kept↔ r.index).0 r.passes, unfold new_number in r.rank);
    rising = λ n m r s l. unfold new_number in (rank_less (is_kept A) m n l ((kept↔ n).1 r));
    arcs = λ n t r. trimmed-arc A (new_number A n) t (new-node n r) ∙ rw (old-of-new n r) refl;
    labels = λ n r. trimmed-label A (new_number A n) (new-node n r) ∙ rw (old-of-new n r) refl;
  }

  pub lists-reached : ListsReached A (old_numbers A)
  lists-reached = record {
    exactly = λ n. (
      λ (i, l, e). let (r, q) = old-ranked A i (rw (trimmed-nodes A) l) in rw (← e, q) ((kept↔ r.index).0 r.passes),
      λ r. (new_number A n, rw (trimmed-nodes A) at (new-node n r), old-of-new n r),
    );
    rising = old-rising A;
  }

  pub trimmed-closed : Closed (trimmed_graph A)
  trimmed-closed = record {
    root = rw trimming.root at (new-node 0 (root-reachable A));
    lands = carried-lands (trimming-carries trimming);
    bounded = λ i t l.
        by_less i (trimmed_graph A).nodes (λ k. trimmed-arc A i t k ∙ ap (option_map (new_number A)) (c.bounded (get_or (old_numbers A) i 0) t (rw (trimmed-transitions A) at l)))
        ((trimmed-confined A).arcs i t);
  }

  pub trimmed-lists : SameLists (trimmed_graph A) A 0 0
  trimmed-lists = (carried-root (trimming-carries trimming)).lists

  pub trimmed-reached : (i : ℕ) → i < (trimmed_graph A).nodes → Reachable (trimmed_graph A) i
  trimmed-reached = carried-reached (trimming-carries trimming)

  -- ---- where all of it is reached

  module _ (k : Confined A) (all : (n : ℕ) → n < A.nodes → Reachable A n) where
    all-kept : (n : ℕ) → n < A.nodes → is_kept A n ≡ true
    all-kept n l = (kept↔ n).1 (all n l)

    all_nodes : length (old_numbers A) ≡ A.nodes
    all_nodes = kept-length A ∙ count-full (is_kept A) A.nodes all-kept

    old-same : (i : ℕ) → i < A.nodes → get_or (old_numbers A) i 0 ≡ i
    unfolding old_numbers
    old-same i l = listed-all (is_kept A) A.nodes all-kept i l

    new-same : (n : ℕ) → n < A.nodes → new_number A n ≡ n
    unfolding new_number
    new-same n l = count-full (is_kept A) n (λ i h. all-kept i (omega arith))

    pub all_listed : old_numbers A ≡ tabulate (λ n. n) A.nodes
    all_listed = tabulate-is (λ n. n) 0 A.nodes (old_numbers A) all_nodes old-same

    arc-same : (n t : ℕ) → (trimmed_graph A).arc n t ≡ A.arc n t
    arc-same n t =
        by_less n A.nodes
        (λ l. trimmed-arc A n t (rw (trimmed-nodes A, all_nodes) l) ∙ rw (old-same n l) (arc-cases (A.arc n t) (λ e. rw e refl)
        (λ m e. rw e (ap some (new-same m (c.lands n t m l e))))))
        (λ l. (trimmed-confined A).arcs n t (rw (trimmed-nodes A, all_nodes) l) ∙ sym (k.arcs n t l))

    label_same : (n : ℕ) → (trimmed_graph A).label n ≡ A.label n
    label_same n =
        by_less n A.nodes (λ l. trimmed-label A n (rw (trimmed-nodes A, all_nodes) l) ∙ ap A.label (old-same n l))
        (λ l. (trimmed-confined A).labels n (rw (trimmed-nodes A, all_nodes) l) ∙ sym (k.labels n l))

    pub trimmed-itself : trimmed_graph A ≡ A
    trimmed-itself = λ i. record {
      nodes = (trimmed-nodes A ∙ all_nodes) i;
      transitions = trimmed-transitions A i;
      arc = λ n t. arc-same n t i;
      label = λ n. label_same n i;
    }
