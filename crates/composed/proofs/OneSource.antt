-- With one source the product is the task itself, so that the composed schedule is the given one, numbered breadth first (§10.33).
use Rattle.scan.proofs.Basics.{ℕ, ◌-◌, ◌*◌, ◌<◌, arith, ◌≡◌, refl, sym, ap, ◌∙◌, Option, none, some, option_map, length, get_or}
use native.Mathlib.Nat.{mod-eq_of_lt, div-one, zero-mul}
use Rattle.scan.specs.Scan.{sum}
use Rattle.scan.proofs.Tabulate.{tabulate-is, tabulate-ext}
use Rattle.automaton.specs.Automaton.{Automaton}
use Rattle.automaton.specs.Reach.{Reachable}
use Rattle.automaton.specs.Quotient.{Renumbering}
use Rattle.sequential.specs.Petri.{PetriNet}
use Rattle.composed.specs.Tuples.{tuples, component, replaced}
use Rattle.composed.specs.Product.{Tasks, OnePerSource, size_of, node_of, moved, held_by, held_by_all, held_at, marking, product}
use Rattle.composed.specs.Composed.{ReachedPart, OneBusy}
use Rattle.composed.proofs.Product.{OthersWait}
use Rattle.composed.proofs.Counts.{held_plain}
use Rattle.composed.proofs.States.{reached↔one-busy}
use Rattle.composed.proofs.Steps.{reached-state}
use Rattle.composed.proofs.Services.{own-step}

map_same : (f : ℕ → ℕ) (o : Option ℕ) → ((m : ℕ) → o ≡ some m → f m ≡ m) → option_map f o ≡ o
map_same f none h = refl
map_same f (some m) h = ap some (h m refl)

module _ (N : PetriNet) (X : Tasks) (H : OnePerSource N X) (one : X.number ≡ 1) (wide : (n : ℕ) → n < (X.task 0).nodes → length ((X.task 0).label n) ≡ N.places) where
  first : 0 < X.number
  first = omega arith

  all-tuples : tuples (size_of X) X.number ≡ (X.task 0).nodes
  unfolding tuples
  all-tuples = rw one (omega arith)

  node-one : (s : ℕ) → s < (X.task 0).nodes → node_of X 0 s ≡ s
  unfolding component tuples
  node-one s l = rw (div-one s) (mod-eq_of_lt l)

  moved-one : (s n : ℕ) → s < (X.task 0).nodes → moved X 0 n s ≡ n
  unfolding replaced tuples
  moved-one s n l = rw (node-one s l) (omega arith)

  alone : (s : ℕ) → OthersWait X s 0
  alone s = record { wait = λ j l d. absurd (d (omega arith)) }

  arc-one : (s t : ℕ) → s < (X.task 0).nodes → (product N X).arc s t ≡ (X.task 0).arc s t
  unfolding product
  arc-one s t l =
      own-step N X H 0 first s t (alone s) (λ j k e. omega arith)
      ∙ rw (node-one s l) (map_same (λ n. moved X 0 n s) ((X.task 0).arc s t) (λ m e. moved-one s m l))

  label-one : (s : ℕ) → s < (X.task 0).nodes → (product N X).label s ≡ (X.task 0).label s
  unfolding product marking
  label-one s l =
      tabulate-ext (held_at N X s) (λ p. get_or ((X.task 0).label s) p 0) N.places (λ p k. held_plain N X s p 0 one ∙ plain p)
      ∙ sym (tabulate-is (λ p. get_or ((X.task 0).label s) p 0) 0 N.places ((X.task 0).label s) (wide s l) (λ p k. refl))
    where
      plain : (p : ℕ) → held_by_all X s p - 0 * N.start p ≡ get_or ((X.task 0).label s) p 0
      plain p = unfold held_by_all sum held_by in (rw (one, zero-mul (N.start p), node-one s l) (omega arith))

  reached-one : (s : ℕ) → s < (X.task 0).nodes → Reachable (product N X) s
  reached-one s l = (reached↔one-busy N X H s).1 (rw all-tuples l, unfold OneBusy in (λ i j li lj bi bj. omega arith))

  pub renumbered : (M : Automaton) (f : ℕ → ℕ) → ReachedPart (product N X) M f → Renumbering (X.task 0) M f
  renumbered M f R = record {
    root = R.root;
    node = λ n l. R.node n (reached-one n l);
    injective = λ n m ln lm e. R.injective n m (reached-one n ln) (reached-one m lm) e;
    onto = λ i l. let (n, r, e) = R.onto i l in (n, rw all-tuples at (reached-state N X H n r), e);
    arcs = λ n t l. R.arcs n t (reached-one n l) ∙ ap (option_map f) (arc-one n t l);
    labels = λ n l. R.labels n (reached-one n l) ∙ label-one n l;
  }
