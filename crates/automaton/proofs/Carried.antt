-- A map that takes the reached nodes of A onto the nodes of M, the root to the root, and carries arcs and labels over. A quotient, the reached part that
-- composition writes and a trimmed graph have such a map; what all of them keep is proved once: where lists lead, the lists allowed, arcs and what they land on.
use Rattle.scan.proofs.Basics.{ℕ, ◌<◌, ◌≡◌, refl, sym, ap, ◌∙◌, some, option_map, List, [], ◌∷◌}
use mathlib.Core.Option.{map-eq-some_iff}
use Rattle.scan.specs.Scan.{found}
use Rattle.scan.proofs.First.{found_map}
use Rattle.automaton.specs.Automaton.{Automaton, Closed, follow, allows, SameLists}
use Rattle.automaton.specs.Reach.{Reachable}
use Rattle.automaton.specs.Equivalence.{Equivalent, Fires}
use Rattle.automaton.proofs.Automaton.{arc-cases, follow-arc, follow-no-arc}
use Rattle.automaton.proofs.Reach.{reachable-node, root-reachable, arc-reachable}

pub record Carries (A M : Automaton) (f : ℕ → ℕ) : Type 0 where
  pub root : f 0 ≡ 0
  pub node : (n : ℕ) → Reachable A n → f n < M.nodes
  pub onto : (i : ℕ) → i < M.nodes → (n : ℕ) × Reachable A n × (f n ≡ i)
  pub arcs : (n t : ℕ) → Reachable A n → M.arc (f n) t ≡ option_map f (A.arc n t)
  pub labels : (n : ℕ) → Reachable A n → M.label (f n) ≡ A.label n

module _ {A M : Automaton} {f : ℕ → ℕ} (C : Carries A M f) where
  -- ---- lists

  pub carried-follow : (σ : List ℕ) (n : ℕ) → Reachable A n → follow M (f n) σ ≡ option_map f (follow A n σ)
  carried-follow [] n r = unfold follow in refl
  carried-follow (t ∷ σ) n r =
      arc-cases (A.arc n t)
      (λ a. follow-no-arc M (f n) t σ (C.arcs n t r ∙ ap (option_map f) a) ∙ sym (ap (option_map f) (follow-no-arc A n t σ a)))
      (λ m a. follow-arc M (f n) t (f m) σ (C.arcs n t r ∙ ap (option_map f) a) ∙ carried-follow σ m (arc-reachable A n t m r a) ∙
      sym (ap (option_map f) (follow-arc A n t m σ a)))

  pub carried-equivalent : (n : ℕ) → Reachable A n → Equivalent M A (f n) n
  carried-equivalent n r = record {
    labels = C.labels n r;
    lists = unfold SameLists allows in (λ σ. ap found (carried-follow σ n r) ∙ found_map f (follow A n σ));
  }

  pub carried-root : Equivalent M A 0 0
  carried-root = rw C.root at (carried-equivalent 0 (root-reachable A))

  -- every node is reached, by the list that leads to a node that is taken to it
  pub carried-reached : (i : ℕ) → i < M.nodes → Reachable M i
  unfolding Reachable
  carried-reached i l =
      let (n, (σ, h), e) = C.onto i l in
      (σ, ap (λ (x : ℕ). follow M x σ) (sym C.root) ∙ carried-follow σ 0 (root-reachable A) ∙ ap (option_map f) h ∙ ap some e)

  -- ---- arcs

  -- an arc of M is the image of one of A
  pub carried-arc : (i t j : ℕ) → i < M.nodes → M.arc i t ≡ some j → (n : ℕ) × (m : ℕ) × Reachable A n × (f n ≡ i) × (A.arc n t ≡ some m) × (f m ≡ j)
  carried-arc i t j l e =
      let (n, r, p) = C.onto i l in
      let (m, a, q) = (map-eq-some_iff f (A.arc n t)).0 (sym (C.arcs n t r) ∙ ap (λ (x : ℕ). M.arc x t) p ∙ e) in
      (n, m, r, p, a, q)

  pub carried-lands : (i t j : ℕ) → i < M.nodes → M.arc i t ≡ some j → j < M.nodes
  carried-lands i t j l e = let (n, m, r, p, a, q) = carried-arc i t j l e in rw (← q) (C.node m (arc-reachable A n t m r a))

  pub carried-fires : (fire : List ℕ → ℕ → List ℕ) → Closed A → Fires fire A → Fires fire M
  carried-fires fire c F = record {
    fires = λ i t j l e.
        let (n, m, r, p, a, q) = carried-arc i t j l e in
        ap M.label (sym q) ∙ C.labels m (arc-reachable A n t m r a) ∙ F.fires n t m (reachable-node A c n r) a ∙
        ap (λ (x : List ℕ). fire x t) (sym (C.labels n r) ∙ ap M.label p);
  }
