-- 30 (§7.30): the test decides it, and it is answered exactly if no counts make the composed graph a schedule of the net (source document 001,
-- Definition 8).
use Prim.Native.Nat.{ℕ, ◌-◌, ◌<◌}
use mathlib.Core.Path.{◌≡◌, sym, ap, ◌∙◌}
use mathlib.Core.Logic.{◌↔◌}
use mathlib.Core.Bool.{true, false, not}
use mathlib.Core.List.{List, [], ◌∷◌}
use mathlib.Core.Option.{some}
use borrow.Author.Tests.{not-true}
use Rattle.scan.specs.Scan.{found, any}
use Rattle.scan.proofs.Tests.{by_test, true-false, and_left, and_right, and_both, not-true→false}
use Rattle.scan.proofs.First.{found_some}
use Rattle.scan.proofs.Every.{any-in, any_out}
use Rattle.automaton.specs.Automaton.{follow}
use Rattle.automaton.specs.Reach.{Reachable, reached_in}
use Rattle.automaton.proofs.Automaton.{arc-transition, follow-first}
use Rattle.automaton.proofs.Reach.{root-reachable, arc-reachable, reachable-node, reached↔reachable}
use Rattle.sequential.specs.Petri.{PetriNet, fire}
use Rattle.sequential.specs.Tests.{enabled}
use Rattle.sequential.specs.Petri.{Enabled}
use Rattle.sequential.specs.Schedule.{IsSchedule}
use Rattle.sequential.proofs.Clauses.{enabled↔}
use Rattle.composed.specs.Product.{Tasks, OnePerSource, marking, product}
use Rattle.composed.specs.Composed.{trimmed_number, ReachedPart, composed, relabelled, Composable}
use Rattle.composed.specs.Composed.{Disabled, Dependent, ReachedEnabled, at_root, by_arc, Independent, Balanced, disabled_by, disabled_at, is_dependent}
use Rattle.automaton.proofs.Reach.{reach-induction}
use Rattle.composed.proofs.Product.{step-out}
use Rattle.composed.proofs.Steps.{product-closed}
use Rattle.composed.proofs.Counts.{root-balanced, root-marking, step-lands, step-balanced}
use Rattle.composed.proofs.Composed.{composed-part, composed-schedule}

module _ (N : PetriNet) (X : Tasks) (H : OnePerSource N X) where
  -- ---- the test

  dependent-out : is_dependent N X ≡ true → Dependent N X
  unfolding is_dependent disabled_at disabled_by
  dependent-out e =
      let (s, l, q) = any_out (disabled_at N X) (product N X).nodes e in
      let (t, k, d) = any_out (disabled_by N X s) N.transitions (and_right (reached_in (product N X) ((product N X).nodes - 1) s) (any (disabled_by N X s) N.transitions) q) in
      let (m, a) = found_some ((product N X).arc s t) (and_left (found ((product N X).arc s t)) (not (enabled N (marking N X s) t)) d) in (
        s,
        t,
        record {
          target = m;
          reached = (reached↔reachable (product N X) (product-closed N X H) s).0
              (and_left (reached_in (product N X) ((product N X).nodes - 1) s) (any (disabled_by N X s) N.transitions) q);
          fires = a;
          disabled = not-true (enabled N (marking N X s) t) (and_right (found ((product N X).arc s t)) (not (enabled N (marking N X s) t)) d);
        },
      )

  arc-below : (s t m : ℕ) → (product N X).arc s t ≡ some m → t < N.transitions
  arc-below s t m a = unfold product in (arc-transition (product N X) (product-closed N X H) s t m a)

  dependent-in : Dependent N X → is_dependent N X ≡ true
  unfolding is_dependent disabled_at disabled_by found
  dependent-in (s, t, D) =
      any-in (disabled_at N X) (product N X).nodes s (reachable-node (product N X) (product-closed N X H) s D.reached)
      (and_both (reached_in (product N X) ((product N X).nodes - 1) s) (any (disabled_by N X s) N.transitions)
      ((reached↔reachable (product N X) (product-closed N X H) s).1 D.reached)
      (any-in (disabled_by N X s) N.transitions t (arc-below s t D.target D.fires)
      (and_both (found ((product N X).arc s t)) (not (enabled N (marking N X s) t)) (ap found D.fires) (ap not D.disabled))))

  pub dependent↔ : (is_dependent N X ≡ true) ↔ Dependent N X
  dependent↔ = (dependent-out, dependent-in)

  pub independent↔ : (is_dependent N X ≡ false) ↔ Independent N X
  independent↔ = (
    λ e s t m r a. by_test (enabled N (marking N X s) t) (λ q. (enabled↔ N (marking N X s) t).0 q)
        (λ q. true-false (is_dependent N X) (dependent-in (s, t, record { target = m; reached = r; fires = a; disabled = q })) e),
    λ I. not-true→false (is_dependent N X) (λ e.
        let (s, t, D) = dependent-out e in
        true-false (enabled N (marking N X s) t) ((enabled↔ N (marking N X s) t).1 (I s t D.target D.reached D.fires)) D.disabled),
  )

  -- ---- reached by any firings, or by enabled ones alone

  -- the first firing on the way that is not enabled
  pub dependent-early : Dependent N X → (s : ℕ) × (t : ℕ) × ReachedEnabled N X s × Disabled N X s t
  dependent-early (s, t, D) = go path
    where
      path : (σ : List ℕ) × (follow (product N X) 0 σ ≡ some s)
      path = unfold Reachable in D.reached

      along : (σ : List ℕ) (n : ℕ) → ReachedEnabled N X n → Reachable (product N X) n → follow (product N X) n σ ≡ some s
          → (s : ℕ) × (t : ℕ) × ReachedEnabled N X s × Disabled N X s t
      along [] n R r e = let q : n ≡ s = unfold follow in (cc) in (s, t, rw q at R, D)
      along (u ∷ σ) n R r e =
          let (x, a, f) = follow-first (product N X) n u s σ e in
          by_test (enabled N (marking N X n) u)
          (λ q. along σ x (by_arc u R a q) (arc-reachable (product N X) n u x r a) f)
          (λ q. (n, u, R, record { target = x; reached = r; fires = a; disabled = q }))

      go : (σ : List ℕ) × (follow (product N X) 0 σ ≡ some s) → (s : ℕ) × (t : ℕ) × ReachedEnabled N X s × Disabled N X s t
      go (σ, e) = along σ 0 at_root (root-reachable (product N X)) e

  -- ---- source document 001, Definition 8

  -- whatever counts make the composed graph a schedule, they are the starting count plus every task's change
  module _ (label : ℕ → List ℕ) (S : IsSchedule N (relabelled (composed N X) label)) where
    f : ℕ → ℕ
    f = trimmed_number (product N X)

    P : ReachedPart (product N X) (composed N X) (trimmed_number (product N X))
    P = composed-part N X H

    record Agrees (s : ℕ) : Type 0 where
      equal : label (trimmed_number (product N X) s) ≡ marking N X s
      balanced : Balanced N X s

    module _ (s t m : ℕ) (r : Reachable (product N X) s) (e : (product N X).arc s t ≡ some m) where
      arc : (composed N X).arc (trimmed_number (product N X) s) t ≡ some (trimmed_number (product N X) m)
      arc = P.arcs s t r ∙ rw e

      fires : Enabled N (label (trimmed_number (product N X) s)) t
      fires = unfold relabelled in (S.enables (trimmed_number (product N X) s) t (trimmed_number (product N X) m) (P.node s r) arc)

      lands : label (trimmed_number (product N X) m) ≡ fire N (label (trimmed_number (product N X) s)) t
      lands = unfold relabelled in (S.lands (trimmed_number (product N X) s) t (trimmed_number (product N X) m) (P.node s r) arc)

    agree : (s : ℕ) → Reachable (product N X) s → Agrees s
    agree =
        reach-induction (product N X) Agrees root
        (λ s t m r A e. next s t m r A e (rw A.equal at (fires s t m r e)))
      where
        root : Agrees 0
        root = record {
          equal = ap label P.root ∙ unfold relabelled in S.starts ∙ sym (root-marking N X H);
          balanced = root-balanced N X H;
        }

        next : (s t m : ℕ) → Reachable (product N X) s → Agrees s → (product N X).arc s t ≡ some m → Enabled N (marking N X s) t → Agrees m
        next s t m r A e h =
            let F = step-out X s t m (unfold product in e) in
            record {
              equal = lands s t m r e ∙ ap (λ (x : List ℕ). fire N x t) A.equal ∙ sym (step-lands N X H s t m F A.balanced h);
              balanced = step-balanced N X H s t m F A.balanced h;
            }

    pub relabelled-independent : Independent N X
    relabelled-independent s t m r e = rw (agree s r).equal at (fires s t m r e)

  -- 30 is given exactly when no counts make a schedule of the composed graph
  pub independent↔composable : Independent N X ↔ Composable N X
  independent↔composable = (
    λ I. ((composed N X).label, unfold relabelled in (composed-schedule N X H I)),
    λ (label, S). relabelled-independent label S,
  )
