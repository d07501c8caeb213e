-- Following a list arc by arc, and one list after another; and when a list is allowed.
use Rattle.scan.proofs.Basics.{ℕ, ◌<◌, ◌≡◌, refl, sym, ap, ◌∙◌, true, false, Option, none, some, List, [], ◌∷◌, ◌++◌}
use Rattle.scan.specs.Scan.{found, found_or}
use Rattle.scan.proofs.Tests.{by_less, true-false}
use Rattle.scan.proofs.First.{none-some, found_some}
use Rattle.automaton.specs.Automaton.{Automaton, Closed, follow, allows}

-- both forms of an arc, each with its equation
pub arc-cases {ℓ} : {C : Type ℓ} (o : Option ℕ) → (o ≡ none → C) → ((m : ℕ) → o ≡ some m → C) → C
arc-cases none f g = f refl
arc-cases (some m) f g = g m refl

pub same_target : (o : Option ℕ) (m n : ℕ) → o ≡ some m → o ≡ some n → m ≡ n
same_target o m n p q = cc

-- only a transition of the automaton has an arc
pub arc-transition : (A : Automaton) → Closed A → (n t m : ℕ) → A.arc n t ≡ some m → t < A.transitions
arc-transition A c n t m e = by_less t A.transitions (λ l. l) (λ l. none-some (A.arc n t) m (c.bounded n t l) e)

module _ (A : Automaton) where
  -- ---- one arc

  pub follow-arc : (n t m : ℕ) (σ : List ℕ) → A.arc n t ≡ some m → follow A n (t ∷ σ) ≡ follow A m σ
  unfolding follow
  follow-arc n t m σ e = rw e

  pub follow-no-arc : (n t : ℕ) (σ : List ℕ) → A.arc n t ≡ none → follow A n (t ∷ σ) ≡ none
  unfolding follow
  follow-no-arc n t σ e = rw e

  pub follow_one : (n t : ℕ) → follow A n (t ∷ []) ≡ A.arc n t
  unfolding follow
  follow_one n t = arc-cases (A.arc n t) (λ q. rw q) (λ m q. rw q)

  -- a list that leads somewhere begins with an arc
  pub follow-first : (n t p : ℕ) (σ : List ℕ) → follow A n (t ∷ σ) ≡ some p → (m : ℕ) × (A.arc n t ≡ some m) × (follow A m σ ≡ some p)
  unfolding follow
  follow-first n t p σ e =
      arc-cases (A.arc n t) (λ q. none-some (follow A n (t ∷ σ)) p (follow-no-arc n t σ q) e) (λ m q. (m, q, sym (follow-arc n t m σ q) ∙ e))

  -- ---- a list behind a list

  pub follow-append : (σ τ : List ℕ) (n : ℕ) → follow A n (σ ++ τ) ≡ found_or none (λ m. follow A m τ) (follow A n σ)
  unfolding follow
  follow-append [] τ n = refl
  follow-append (t ∷ σ) τ n = arc-cases (A.arc n t) (λ q. rw q) (λ m q. rw q (follow-append σ τ m))

  pub follow-on : (σ τ : List ℕ) (n m : ℕ) → follow A n σ ≡ some m → follow A n (σ ++ τ) ≡ follow A m τ
  follow-on σ τ n m e = follow-append σ τ n ∙ ap (found_or none (λ m. follow A m τ)) e

  pub follow-snoc : (σ : List ℕ) (n m t : ℕ) → follow A n σ ≡ some m → follow A n (σ ++ (t ∷ [])) ≡ A.arc m t
  follow-snoc σ n m t e = follow-on σ (t ∷ []) n m e ∙ follow_one m t

  pub follow-nil : (n m : ℕ) → follow A n [] ≡ some m → n ≡ m
  unfolding follow
  follow-nil n m e = cc

  -- what arcs keep is kept along a list
  pub follow-keeps : (P : ℕ → Type 0) → ((n t m : ℕ) → P n → A.arc n t ≡ some m → P m) → (σ : List ℕ) (n m : ℕ) → P n → follow A n σ ≡ some m → P m
  follow-keeps P s [] n m p e = rw (← follow-nil n m e) p
  follow-keeps P s (t ∷ σ) n m p e = let (x, a, f) = follow-first n t m σ e in follow-keeps P s σ x m (s n t x p a) f

  -- from a node to a node
  pub follow-lands : Closed A → (σ : List ℕ) (n m : ℕ) → n < A.nodes → follow A n σ ≡ some m → m < A.nodes
  follow-lands c = follow-keeps (λ n. n < A.nodes) c.lands

  -- ---- what is allowed

  pub allows-arc : (n t m : ℕ) (σ : List ℕ) → A.arc n t ≡ some m → allows A n (t ∷ σ) ≡ allows A m σ
  unfolding allows
  allows-arc n t m σ e = ap found (follow-arc n t m σ e)

  pub allows-no-arc : (n t : ℕ) (σ : List ℕ) → A.arc n t ≡ none → allows A n (t ∷ σ) ≡ false
  unfolding allows found
  allows-no-arc n t σ e = ap found (follow-no-arc n t σ e)

  -- what is allowed leads somewhere, and the other way round
  pub allows-follow : (n : ℕ) (σ : List ℕ) → allows A n σ ≡ true → (m : ℕ) × (follow A n σ ≡ some m)
  unfolding allows
  allows-follow n σ e = found_some (follow A n σ) e

  pub follow-allows : (n m : ℕ) (σ : List ℕ) → follow A n σ ≡ some m → allows A n σ ≡ true
  unfolding allows found
  follow-allows n m σ e = ap found e

  -- the beginning of an allowed list is allowed
  pub allows-prefix : (σ τ : List ℕ) (n : ℕ) → allows A n (σ ++ τ) ≡ true → allows A n σ ≡ true
  unfolding allows found
  allows-prefix σ τ n e =
      arc-cases (follow A n σ) (λ q. true-false (allows A n (σ ++ τ)) e (ap found (follow-append σ τ n ∙ ap (found_or none (λ m. follow A m τ)) q)))
      (λ m q. follow-allows n m σ q)
