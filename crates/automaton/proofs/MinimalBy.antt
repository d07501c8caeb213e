-- Any test that agrees with `same` on the nodes makes the same minimal automaton: the table of leaders of the last round does.
use Rattle.scan.proofs.Basics.{ℕ, zero, suc, ◌<◌, arith, ◌≡◌, refl, sym, ap, ◌∙◌, Bool, cond, ltb, List, length, get_or}
use Rattle.scan.proofs.Tests.{ltb-true, by_test}
use Rattle.scan.proofs.Least.{least-ext}
use Rattle.automaton.specs.Automaton.{Automaton, Closed}
use Rattle.scan.specs.Scan.{found_or}
use Rattle.automaton.specs.Equivalence.{same, leader_by, leader, same_class, refined}
use Rattle.automaton.specs.BreadthFirst.{class_at, index_of, enter, expand, explored, order}
use Rattle.automaton.specs.Quotient.{merged, minimal_by, minimal}
use Rattle.automaton.proofs.Automaton.{arc-cases}
use Rattle.automaton.proofs.Classes.{same-leader, class_same, refined-leader, leaders-last}
use Rattle.automaton.proofs.Index.{enter-cases, snoc-all}

-- every element is a node
abbrev Nodes : Automaton → List ℕ → Type 0
Nodes A xs = (k : ℕ) → k < length xs → get_or xs k 0 < A.nodes

module _ (A : Automaton) (c : Closed A) (r s : ℕ → ℕ → Bool) (agree : (n m : ℕ) → n < A.nodes → m < A.nodes → r n m ≡ s n m) where
  index_agrees : (xs : List ℕ) (m : ℕ) → Nodes A xs → m < A.nodes → index_of r xs m ≡ index_of s xs m
  unfolding index_of class_at
  index_agrees xs m h l = least-ext (class_at r xs m) (class_at s xs m) (length xs) (λ i li. agree (get_or xs i 0) m (h i li) l)

  enter-agrees : (xs : List ℕ) (m : ℕ) → Nodes A xs → m < A.nodes → enter r xs m ≡ enter s xs m
  unfolding enter
  enter-agrees xs m h l = rw (index_agrees xs m h l)

  enter-nodes : (xs : List ℕ) (m : ℕ) → Nodes A xs → m < A.nodes → Nodes A (enter s xs m)
  enter-nodes xs m h l = enter-cases s xs m (Nodes A) (λ _. h) (λ _. snoc-all xs m (λ k n. n < A.nodes) h l)

  record Step (ys zs : List ℕ) : Type 0 where
    equal : ys ≡ zs
    nodes : Nodes A zs

  expand-agrees : (n : ℕ) (xs : List ℕ) → n < A.nodes → Nodes A xs → (t : ℕ) → Step (expand r A n xs t) (expand s A n xs t)
  unfolding expand
  expand-agrees n xs l h zero = record { equal = refl; nodes = h }
  expand-agrees n xs l h (suc t) = step (expand r A n xs t) (expand s A n xs t) (expand-agrees n xs l h t)
    where
      step : (ys zs : List ℕ) → Step ys zs → Step (found_or ys (enter r ys) (A.arc n t)) (found_or zs (enter s zs) (A.arc n t))
      step ys zs S =
          arc-cases (A.arc n t) (λ a. rw a S)
          (λ m a.
          let lm : m < A.nodes = c.lands n t m l a in
          rw a (record { equal = ap (λ (xs : List ℕ). enter r xs m) S.equal ∙ enter-agrees zs m S.nodes lm; nodes = enter-nodes zs m S.nodes lm }))

  explored-agrees : (i : ℕ) → Step (explored r A i) (explored s A i)
  unfolding explored
  explored-agrees zero = record { equal = refl; nodes = λ k l. let z : k ≡ 0 = omega arith in rw z c.root }
  explored-agrees (suc i) = step (explored r A i) (explored s A i) (explored-agrees i)
    where
      step : (xs ys : List ℕ) → Step xs ys
          → Step (cond (ltb i (length xs)) (expand r A (get_or xs i 0) xs A.transitions) xs) (cond (ltb i (length ys)) (expand s A (get_or ys i 0) ys A.transitions) ys)
      step xs ys S =
          rw S.equal
          (by_test (ltb i (length ys))
          (λ q. rw q (expand-agrees (get_or ys i 0) ys (S.nodes i (ltb-true i (length ys) q)) S.nodes A.transitions))
          (λ q. rw q (record { equal = refl; nodes = S.nodes })))

  pub order-agrees : order r A ≡ order s A
  unfolding order
  order-agrees = (explored-agrees A.nodes).equal

  merged-agrees : (xs : List ℕ) → Nodes A xs → merged r A xs ≡ merged s A xs
  unfolding merged
  merged-agrees xs h = λ i. record { nodes = length xs; transitions = A.transitions; arc = λ n t. arcs n t i; label = (merged s A xs).label }
    where
      arcs : (n t : ℕ) → (merged r A xs).arc n t ≡ (merged s A xs).arc n t
      arcs n t =
          by_test (ltb n (length xs))
          (λ q. rw q (arc-cases (A.arc (get_or xs n 0) t) (λ a. rw a)
          (λ m a. rw (a, index_agrees xs m h (c.lands (get_or xs n 0) t m (h n (ltb-true n (length xs) q)) a)))))
          (λ q. rw q)

  pub minimal_by-agrees : minimal_by r A ≡ minimal_by s A
  unfolding minimal_by order
  minimal_by-agrees = ap (merged r A) (explored-agrees A.nodes).equal ∙ merged-agrees (order s A) (explored-agrees A.nodes).nodes

-- ---- by a table that holds the leaders of round k

module _ (A : Automaton) (c : Closed A) (k : ℕ) (class : ℕ → ℕ) (is : (n : ℕ) → n < A.nodes → class n ≡ leader A k n) where
  -- a round more changes nothing
  pub minimal_by-stable : ((n : ℕ) → n < A.nodes → leader_by (refined A class) n ≡ class n) → minimal_by (same_class class) A ≡ minimal A
  unfolding minimal
  minimal_by-stable h =
      minimal_by-agrees A c (same_class class) (same A)
      (λ n m ln lm. class_same A c k class is n m ln lm ∙ sym (same-leader A k n m) ∙ sym (leaders-last A c k unchanged n m ln lm))
    where
      unchanged : (n : ℕ) → n < A.nodes → leader A (suc k) n ≡ leader A k n
      unchanged n l = sym (refined-leader A c k class is n l) ∙ h n l ∙ is n l
