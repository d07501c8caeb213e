-- Lists in which no source but that of one task occurs: the product allows those that the task allows (§10.34).
use Rattle.scan.proofs.Basics.{ℕ, suc, ◌<◌, arith, ◌≡◌, refl, sym, ap, ◌∙◌, ⊎_elim, option_map, List, [], ◌∷◌, length, get_or}
use Rattle.scan.specs.Scan.{found}
use Rattle.scan.proofs.Tests.{by_equal, true-false}
use Rattle.scan.proofs.First.{none-some, found_map}
use Rattle.automaton.specs.Automaton.{Automaton, follow, allows}
use Rattle.automaton.proofs.Automaton.{arc-cases, allows-arc, allows-no-arc}
use Rattle.automaton.proofs.Reach.{root-reachable}
use Rattle.sequential.specs.Petri.{PetriNet}
use Rattle.composed.specs.Product.{Tasks, OnePerSource, node_of, moved, waiting, step, product}
use Rattle.composed.specs.Composed.{ReachedPart, OwnSources}
use Rattle.composed.proofs.Product.{OthersWait, Fired, step-out, busy-not, all_others}
use Rattle.composed.proofs.Steps.{State, node-below, moved_same, moved-state, moved-others, root-node, root-waits, root-state, source-own, task-step}
use Rattle.automaton.proofs.Carried.{carried-follow}
use Rattle.composed.proofs.Trimmed.{part-carries}

module _ (N : PetriNet) (X : Tasks) (H : OnePerSource N X) (i : ℕ) (l : i < X.number) where
  -- t is no other task's source
  abbrev Own : ℕ → Type 0
  Own t = (j : ℕ) → j < X.number → X.source j ≡ t → j ≡ i

  -- then it is task i that fires it while the others wait
  by-own : (s t m : ℕ) → OthersWait X s i → Own t → (F : Fired X s t m) → F.by ≡ i
  by-own s t m O own F =
      ⊎_elim (λ (a, e). own F.by F.task e)
      (λ b. by_equal F.by i (λ e. e) (λ d. true-false (waiting X s F.by) (O.wait F.by F.task d) (busy-not X s F.by b))) F.turns

  pub own-step : (s t : ℕ) → OthersWait X s i → ((j : ℕ) → j < X.number → X.source j ≡ t → j ≡ i)
      → step X s t ≡ option_map (λ n. moved X i n s) ((X.task i).arc (node_of X i s) t)
  own-step s t O own =
      arc-cases ((X.task i).arc (node_of X i s) t)
      (λ e. arc-cases (step X s t) (λ q. q ∙ rw e refl) (λ m q.
      let F = step-out X s t m q in
      none-some ((X.task i).arc (node_of X i s) t) F.node e (rw (by-own s t m O own F) at F.arc)))
      (λ n e. task-step N X H s i t n l O e ∙ rw e refl)

  own-allows : (σ : List ℕ) (s : ℕ) → State N X H s → OthersWait X s i → ((k : ℕ) → k < length σ → Own (get_or σ k 0)) → allows (product N X) s σ ≡ allows (X.task i) (node_of X i s) σ
  own-allows [] s ls O own = unfold allows follow found in refl
  own-allows (t ∷ σ) s ls O own =
      let e = own-step s t O (own 0 (omega arith)) in
      arc-cases ((X.task i).arc (node_of X i s) t)
      (λ a. allows-no-arc (product N X) s t σ (arc-is s t ∙ e ∙ rw a refl) ∙ sym (allows-no-arc (X.task i) (node_of X i s) t σ a))
      (λ n a.
      let ln : n < (X.task i).nodes = (H.closed i l).lands (node_of X i s) t n (node-below N X H s i l) a in
      allows-arc (product N X) s t (moved X i n s) σ (arc-is s t ∙ e ∙ rw a refl)
      ∙ own-allows σ (moved X i n s) (moved-state N X H s i n ls l ln) (moved-others N X H s i n l ln O) (λ k m. own (suc k) (omega arith))
      ∙ rw (moved_same N X H s i n l ln) (sym (allows-arc (X.task i) (node_of X i s) t n σ a)))
    where
      arc-is : (s t : ℕ) → (product N X).arc s t ≡ step X s t
      arc-is s t = unfold product in refl

  own-list : (σ : List ℕ) → OwnSources N (X.source i) σ → (k : ℕ) → k < length σ → Own (get_or σ k 0)
  unfolding OwnSources
  own-list σ h k m j lj e = source-own N X H i j l lj (e ∙ h k m (rw e at (H.source j lj)))

  -- from the root, in the product and in its reached part
  pub services-allowed : (M : Automaton) (f : ℕ → ℕ) → ReachedPart (product N X) M f → (σ : List ℕ) → OwnSources N (X.source i) σ → allows M 0 σ ≡ allows (X.task i) 0 σ
  services-allowed M f R σ h =
      ap (λ (n : ℕ). allows M n σ) (sym R.root)
      ∙ unfold allows in (ap found (carried-follow (part-carries R) σ 0 (root-reachable (product N X))) ∙ found_map f (follow (product N X) 0 σ))
      ∙ own-allows σ 0 (root-state N X H) (all_others X 0 i (root-waits N X H)) (own-list σ h)
      ∙ ap (λ (n : ℕ). allows (X.task i) n σ) (root-node N X H i)
