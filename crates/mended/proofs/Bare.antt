-- What depends only on nodes and arcs: following a list, the clauses of a schedule about arcs, the routes, and so the counts worked out along them.
use Rattle.scan.proofs.Basics.{ℕ, zero, suc, ◌-◌, ◌≡◌, refl, sym, ap, subst, ◌∙◌, cond, ltb, Option, none, option_get_or, List, [], ◌∷◌, get_or}
use Rattle.scan.specs.Scan.{found, found_or, tabulate}
use Rattle.automaton.specs.Automaton.{Automaton, follow, allows}
use Rattle.automaton.specs.Reach.{Reachable, arc_into}
use Rattle.sequential.specs.Petri.{PetriNet, initial, fire_all}
use Rattle.sequential.specs.Schedule.{Await, OneChoiceSet, ToAwait}
use Rattle.mended.specs.Arcs.{SameArcs}
use Rattle.mended.specs.Routes.{known, route_by, route_from, route_next, routes, route}
use Rattle.mended.specs.Counts.{worked_out, mended_graph}

-- ---- the same nodes and arcs

-- an automaton's nodes and arcs alone
unfoldable pub bare : Automaton → Automaton
bare A = record { nodes = A.nodes; transitions = A.transitions; arc = A.arc; label = λ n. [] }

same-bare : (A B : Automaton) → SameArcs A B → bare A ≡ bare B
unfolding bare
same-bare A B s = λ i. record { nodes = s.nodes i; transitions = s.transitions i; arc = λ n t. s.arcs n t i; label = λ n. [] }

pub same-sym : (A B : Automaton) → SameArcs A B → SameArcs B A
same-sym A B s = record { nodes = sym s.nodes; transitions = sym s.transitions; arcs = λ n t. sym (s.arcs n t) }

pub same_refl : (A : Automaton) → SameArcs A A
same_refl A = record { nodes = refl; transitions = refl; arcs = λ n t. refl }

-- what is told of nodes and arcs alone is told alike of two automata that have the same
same-told {ℓ} : {X : Type ℓ} (f : Automaton → X) → ((A : Automaton) → f A ≡ f (bare A)) → (A B : Automaton) → SameArcs A B → f A ≡ f B
same-told f h A B s = h A ∙ ap f (same-bare A B s) ∙ sym (h B)

-- what is asked of nodes and arcs alone holds of both or of neither
pub same-holds : (Q : Automaton → Type 0) → ((A : Automaton) → Q A ≡ Q (bare A)) → (A B : Automaton) → SameArcs A B → Q A → Q B
same-holds Q h A B s q = subst (λ (X : Type 0). X) (same-told Q h A B s) q

-- ---- one automaton and its nodes and arcs

module _ (A : Automaton) where
  -- where a list leads, from each node
  abbrev leads_to : Automaton → List ℕ → ℕ → Option ℕ
  leads_to A σ n = follow A n σ

  bare-follow : (σ : List ℕ) → leads_to A σ ≡ leads_to (bare A) σ
  unfolding follow bare
  bare-follow [] = refl
  bare-follow (t ∷ σ) = ap (λ (f : ℕ → Option ℕ). step f) (bare-follow σ)
    where
      step : (ℕ → Option ℕ) → ℕ → Option ℕ
      step f n = found_or none f (A.arc n t)

  bare-routes : (k : ℕ) → routes A k ≡ routes (bare A) k
  unfolding routes route_next route_from route_by known arc_into bare
  bare-routes zero = refl
  bare-routes (suc k) = ap (λ (r : List (Option (List ℕ))). tabulate (route_next A r) A.nodes) (bare-routes k)

  bare-route : (n : ℕ) → route A n ≡ route (bare A) n
  unfolding route bare
  bare-route n = ap (λ (r : List (Option (List ℕ))). option_get_or (get_or r n none) []) (bare-routes (A.nodes - 1))

-- ---- lists

module _ (A B : Automaton) (s : SameArcs A B) where
  pub same-follow : (σ : List ℕ) (n : ℕ) → follow A n σ ≡ follow B n σ
  same-follow σ n = same-told (λ X. follow X n σ) (λ X. ap (λ (f : ℕ → Option ℕ). f n) (bare-follow X σ)) A B s

  pub same-allows : (σ : List ℕ) (n : ℕ) → allows A n σ ≡ allows B n σ
  unfolding allows
  same-allows σ n = ap found (same-follow σ n)

  pub same-reachable : (n : ℕ) → Reachable A n → Reachable B n
  unfolding Reachable
  same-reachable n (σ, e) = (σ, sym (same-follow σ 0) ∙ e)

  -- ---- the clauses of a schedule that speak of arcs alone

  pub same-choices : (N : PetriNet) (n : ℕ) → OneChoiceSet N A n → OneChoiceSet N B n
  unfolding bare
  same-choices N n = same-holds (λ X. OneChoiceSet N X n) (λ X. refl) A B s

  pub same-awaits : (N : PetriNet) (n : ℕ) → Await N A n → Await N B n
  unfolding bare
  same-awaits N n = same-holds (λ X. Await N X n) (λ X. refl) A B s

  pub same-returns : (N : PetriNet) (n : ℕ) → ToAwait N A n → ToAwait N B n
  same-returns N n (σ, m, e, a) = (σ, m, sym (same-follow σ n) ∙ e, same-awaits N m a)

  -- ---- the worked-out counts

  module _ (N : PetriNet) where
    pub same-worked : (n : ℕ) → worked_out N A n ≡ worked_out N B n
    unfolding worked_out
    same-worked n = ap (fire_all N (initial N)) (same-told (λ X. route X n) (λ X. bare-route X n) A B s)

    pub same-mended : mended_graph N A ≡ mended_graph N B
    unfolding mended_graph
    same-mended = λ i. record {
      nodes = s.nodes i;
      transitions = s.transitions i;
      arc = λ n t. s.arcs n t i;
      label = λ n. cond (ltb n (s.nodes i)) (same-worked n i) [];
    }
