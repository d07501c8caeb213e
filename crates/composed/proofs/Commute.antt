-- Two tasks served one after the other: serving a task moves only that task, so that either order ends in the same state (§10.34).
use Prim.Native.Nat.{ℕ, ◌<◌}
use mathlib.Core.Path.{◌≡◌, refl, sym, ap, ◌∙◌}
use mathlib.Core.Bool.{true}
use mathlib.Core.List.{List, ◌++◌}
use mathlib.Core.Option.{some, map}
use Rattle.automaton.specs.Automaton.{follow}
use Rattle.automaton.specs.Reach.{Reachable}
use Rattle.automaton.proofs.Automaton.{follow-arc, follow-on, follow-lands}
use Rattle.sequential.specs.Petri.{PetriNet}
use Rattle.composed.specs.Product.{Tasks, OnePerSource, node_of, moved, awaits, all_await, product}
use Rattle.composed.specs.Composed.{trimmed_number, Serves, Served, Commutes, serves, Back, back_here, back_on}
use Rattle.automaton.proofs.Carried.{carried-follow}
use Rattle.composed.proofs.Trimmed.{part-carries}
use Rattle.composed.proofs.Product.{all_others}
use Rattle.composed.proofs.Steps.{State, node-below, moved_other, moved-state, moved-commute, reached-state, task-follow}
use Rattle.composed.proofs.Composed.{served-waits, composed-part}

module _ (X : Tasks) (i : ℕ) where
  -- the outcomes lead, by the task's own arcs, to the await node
  back-follow : (n m : ℕ) (σ : List ℕ) → Back X i n σ m → follow (X.task i) n σ ≡ some m
  back-follow n m σ (back_here w) = unfold follow in refl
  back-follow n m σ (back_on t x τ b a h) = follow-arc (X.task i) n t x τ a ∙ back-follow x m τ h

  back-awaits : (n m : ℕ) (σ : List ℕ) → Back X i n σ m → awaits X i m ≡ true
  back-awaits n m σ (back_here w) = w
  back-awaits n m σ (back_on t x τ b a h) = back-awaits x m τ h

  serves-follow : (n m : ℕ) (σ : List ℕ) → Serves X i n σ m → follow (X.task i) n σ ≡ some m
  serves-follow n m σ (serves x τ a h) = follow-arc (X.task i) n (X.source i) x τ a ∙ back-follow x m τ h

  serves-awaits : (n m : ℕ) (σ : List ℕ) → Serves X i n σ m → awaits X i m ≡ true
  serves-awaits n m σ (serves x τ a h) = back-awaits x m τ h

module _ (N : PetriNet) (X : Tasks) (H : OnePerSource N X) where
  -- a service moves its task alone, and leaves all waiting
  pub served : (s i m : ℕ) (σ : List ℕ) → State N X H s → all_await X s ≡ true → i < X.number → Serves X i (node_of X i s) σ m → Served N X s i σ m
  served s i m σ ls a l v =
      let f = serves-follow X i (node_of X i s) m σ v in
      let lm : m < (X.task i).nodes = follow-lands (X.task i) (H.closed i l) σ (node_of X i s) m (node-below N X H s i l) f in
      record {
        leads = task-follow N X H σ s i m ls l (all_others X s i a) f;
        waits = served-waits N X H s i m l lm (all_others X s i a) (serves-awaits X i (node_of X i s) m σ v);
      }

  -- one service after the other
  twice : (s i j m n : ℕ) (σ τ : List ℕ) → State N X H s → all_await X s ≡ true → i < X.number → j < X.number → (j ≡ i → ⊥)
      → Serves X i (node_of X i s) σ m → Serves X j (node_of X j s) τ n → follow (product N X) s (σ ++ τ) ≡ some (moved X j n (moved X i m s))
  twice s i j m n σ τ ls a li lj d v w =
      let lm : m < (X.task i).nodes
      = follow-lands (X.task i) (H.closed i li) σ (node_of X i s) m (node-below N X H s i li) (serves-follow X i (node_of X i s) m σ v) in
      let S = served s i m σ ls a li v in
      let same : node_of X j (moved X i m s) ≡ node_of X j s = moved_other N X H s i j m li lj d lm in
      follow-on (product N X) σ τ s (moved X i m s) S.leads ∙
      (served (moved X i m s) j n τ (moved-state N X H s i m ls li lm) S.waits lj (rw same w)).leads

  pub commutes : (s i j m n : ℕ) (σ τ : List ℕ) → Reachable (product N X) s → all_await X s ≡ true → i < X.number → j < X.number → (j ≡ i → ⊥)
      → Serves X i (node_of X i s) σ m → Serves X j (node_of X j s) τ n → Commutes N X s σ τ
  commutes s i j m n σ τ r a li lj d v w =
      let ls : State N X H s = reached-state N X H s r in
      let lm : m < (X.task i).nodes
      = follow-lands (X.task i) (H.closed i li) σ (node_of X i s) m (node-below N X H s i li) (serves-follow X i (node_of X i s) m σ v) in
      let ln : n < (X.task j).nodes
      = follow-lands (X.task j) (H.closed j lj) τ (node_of X j s) n (node-below N X H s j lj) (serves-follow X j (node_of X j s) n τ w) in
      let end : ℕ = moved X j n (moved X i m s) in
      let first : follow (product N X) s (σ ++ τ) ≡ some end = twice s i j m n σ τ ls a li lj d v w in
      let second : follow (product N X) s (τ ++ σ) ≡ some end
      = twice s j i n m τ σ ls a lj li (λ e. d (sym e)) w v ∙ ap some (sym (moved-commute N X H s i j m n ls li lj d lm ln)) in
      let S = served s i m σ ls a li v in
      let T = served (moved X i m s) j n τ (moved-state N X H s i m ls li lm) S.waits lj (rw (moved_other N X H s i j m li lj d lm) w) in
      record {
        end = end;
        one_order = first;
        other_order = second;
        waits = T.waits;
        written = carried-follow (part-carries (composed-part N X H)) (σ ++ τ) s r ∙
            ap (map (trimmed_number (product N X))) first;
        written_other = carried-follow (part-carries (composed-part N X H)) (τ ++ σ) s r ∙
            ap (map (trimmed_number (product N X))) second;
      }
