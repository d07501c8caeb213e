-- Level rows: if two nodes have arcs by the same transitions, their entries correspond one by one, and the rows agree if the targets do, entry by entry.
use Rattle.scan.proofs.Basics.{ℕ, zero, suc, ◌+◌, ◌-◌, ◌≤◌, ◌<◌, add-one, arith, ◌≡◌, refl, sym, ap, ◌∙◌, Bool, true, false, cond, none, some, List, length, get_or}
use native.Mathlib.Nat.{add-zero, add_assoc, suc-mul}
use Rattle.scan.proofs.Tests.{by_test, by_less, lt-ltb, eq-eqb, and_both, and-true}
use Rattle.scan.specs.Scan.{all, found}
use Rattle.scan.proofs.Every.{all-next}
use Rattle.table.specs.Table.{key_at, Rising}
use Rattle.table.specs.Bisection.{lower_bound}
use Rattle.table.proofs.Bisection.{LowerBound}
use Rattle.automaton.specs.Equivalence.{equal_arcs}
use Rattle.sequential.specs.Petri.{PetriNet, petri_net}
use Rattle.sequential.specs.Words.{node_count, entry_count, entry_value, graph}
use Rattle.sequential.proofs.Words.{words-rise}
use Rattle.graph.specs.Readable.{Readable}
use Rattle.graph.proofs.Readable.{words}
use Rattle.graph.proofs.Bounds.{start-bound}
use Rattle.breadth_first.specs.Along.{class_in}
use Rattle.minimize.specs.Agree.{has_key, values_agree, keys_agree, Valued, row_key, row_width, first_entry, SameOffers, targets_agree, LevelRows, TwoRows}
use Rattle.minimize.specs.Leaders.{rows_alike}
use Rattle.minimize.proofs.Agree.{value-at-bound, bound-hit, bound-miss}
use Rattle.minimize.proofs.NodeRows.{first-arc, row-valued, arc_value, walked}

found-cond : (h : Bool) (v : ℕ) → found (cond h (some v) none) ≡ h
unfolding found
found-cond true v = refl
found-cond false v = refl

module _ (sheet : List ℕ) where
  -- a key has one lower bound
  pub same-bound : (key : ℕ) {x y : ℕ} → LowerBound sheet 2 (entry_count sheet) key x → LowerBound sheet 2 (entry_count sheet) key y → x ≡ y
  same-bound key {x} {y} p q =
      by_less x y (λ l. let a = q.below x l in let b = p.above x (omega arith) (omega (arith, q.within)) in omega arith)
      (λ g. by_less y x (λ l. let a = p.below y l in let b = q.above y (omega arith) (omega (arith, p.within)) in omega arith) (λ h. omega arith))

module _ {net sheet : List ℕ} (readable : Readable net sheet) where
  abbrev N : PetriNet
  N = petri_net net

  -- the first key of a node's arcs, and their first entry
  abbrev key : ℕ → ℕ
  key n = row_key net sheet false n

  abbrev first : ℕ → ℕ
  first n = first_entry net sheet false n

  abbrev Bound : ℕ → ℕ → Type 0
  Bound k x = LowerBound sheet 2 (entry_count sheet) k x

  bound : (k : ℕ) → Bound k (lower_bound sheet 2 (entry_count sheet) k)
  bound k = start-bound readable.arcs k

  rises : Rising sheet 2 (entry_count sheet)
  rises = words-rise N sheet (words net sheet readable).arcs

  -- where the arcs of n start, and where they end
  row-bound : (n : ℕ) → Bound (key n + 0) (first n)
  unfolding first_entry
  row-bound n = rw add-zero (bound (key n))

  next-key : (n : ℕ) → n + 1 < node_count sheet → key (n + 1) ≡ key n + N.transitions
  next-key n l = let k : n < node_count sheet = omega arith in first-arc readable l ∙ rw (first-arc readable k, add-one, suc-mul) refl

  row-end : (n : ℕ) → n + 1 < node_count sheet → Bound (key n + N.transitions) (first (n + 1))
  unfolding first_entry
  row-end n l = rw (← next-key n l) (bound (key (n + 1)))

  -- the entries between them are arcs
  pub arcs-valued : {classes : List ℕ} {n x y : ℕ} → length classes ≡ 128 → n < node_count sheet
      → Bound (key n + 0) x → Bound (key n + N.transitions) y
      → (i : ℕ) → x ≤ i → i < y → Valued sheet classes false i
  unfolding has_key
  arcs-valued {classes} {n} long l p q i g h =
      let low = p.above i g (omega (arith, q.within)) in
      let top = q.below i h in
      row-valued readable false long l (key_at sheet 2 i - key n) i (unfold row_width in (omega arith))
      (and_both _ _ (lt-ltb i (entry_count sheet) (omega (arith, q.within))) (eq-eqb (key_at sheet 2 i) (key n + (key_at sheet 2 i - key n)) (omega arith)))

  module _ (classes : List ℕ) {n m : ℕ} (ln : n < node_count sheet) (lm : m < node_count sheet) (offers : SameOffers (graph N sheet) n m) where
    -- after t transitions both rows are as many entries on
    record Steps (t s : ℕ) : Type 0 where
      left : Bound (key n + t) (first n + s)
      right : Bound (key m + t) (first m + s)
      agreed : all (keys_agree sheet (values_agree classes false) (key n) (key m)) t
          ≡ all (targets_agree sheet classes (first n) (first m)) s

    starts : Steps 0 0
    unfolding all
    starts = record { left = rw (add-zero (first n)) (row-bound n); right = rw (add-zero (first m)) (row-bound m); agreed = refl }

    module _ {t s : ℕ} (l : t < N.transitions) (S : Steps t s) where
      -- both have the key or neither
      key-there : {k e : ℕ} → k < node_count sheet → Bound (key k + t) e
          → found ((graph N sheet).arc k t) ≡ has_key sheet e (key k + t)
      key-there {k} {e} lk b = ap found (arc_value readable lk l ∙ value-at-bound sheet rises (key k) t b) ∙ found-cond _ _

      both : has_key sheet (first m + s) (key m + t) ≡ has_key sheet (first n + s) (key n + t)
      unfolding SameOffers
      both = sym (key-there lm S.right) ∙ sym (offers t l) ∙ key-there ln S.left

      here : keys_agree sheet (values_agree classes false) (key n) (key m) t
          ≡ equal_arcs (values_agree classes false)
          (cond (has_key sheet (first n + s) (key n + t)) (some (entry_value sheet (first n + s))) none)
          (cond (has_key sheet (first n + s) (key n + t)) (some (entry_value sheet (first m + s))) none)
      unfolding keys_agree
      here = rw (value-at-bound sheet rises (key n) t S.left, value-at-bound sheet rises (key m) t S.right, both)

      hit : has_key sheet (first n + s) (key n + t) ≡ true → Steps (t + 1) (s + 1)
      unfolding targets_agree
      hit h = record {
        left = rw (← add_assoc (first n) s 1) (bound-hit sheet rises (key n) t S.left h);
        right = rw (← add_assoc (first m) s 1) (bound-hit sheet rises (key m) t S.right (both ∙ h));
        agreed = all-next _ t ∙ rw (S.agreed, here, h) (sym (all-next _ s));
      }

      miss : has_key sheet (first n + s) (key n + t) ≡ false → Steps (t + 1) s
      miss h = record {
        left = bound-miss sheet rises (key n) t S.left h;
        right = bound-miss sheet rises (key m) t S.right (both ∙ h);
        agreed = all-next _ t ∙ rw (S.agreed, here, h) (and-true _);
      }

    steps : (t : ℕ) → t ≤ N.transitions → (s : ℕ) × Steps t s
    steps zero l = (0, starts)
    steps (suc t) l =
        let (s, S) = steps t (omega arith) in
        let k : t < N.transitions = omega arith in
        rw (← add-one t) (by_test (has_key sheet (first n + s) (key n + t)) (λ h. (s + 1, hit k S h)) (λ h. (s, miss k S h)))

    -- all of them: as many entries as row n has
    module _ (inner : n + 1 < node_count sheet) where
      abbrev size : ℕ
      size = first (n + 1) - first n

      over : Steps N.transitions size × (first n ≤ first (n + 1))
      over =
          let (s, S) = steps N.transitions (omega arith) in
          let e : first n + s ≡ first (n + 1) = same-bound sheet _ S.left (row-end n inner) in
          let d : s ≡ size = omega arith in
          (rw (← d) S, omega arith)

      pub level-low : first n ≤ first (n + 1)
      level-low = over.1

      pub level-rows : length classes ≡ 128 → LevelRows sheet classes size (first n) (first m)
      level-rows long = record {
        left = λ s l. arcs-valued long ln (row-bound n) over.0.left _ (omega arith) (omega arith);
        right = λ s l. arcs-valued long lm (row-bound m) over.0.right _ (omega arith) (omega arith);
      }

      pub level-walked : all (targets_agree sheet classes (first n) (first m)) size
          ≡ rows_alike (graph N sheet) false (class_in classes) n m
      unfolding row_width
      level-walked = sym over.0.agreed ∙ walked readable classes false ln lm

-- ---- as the code reads them

module _ {net sheet starts classes : List ℕ} {counts level : Bool} {n m : ℕ} (T : TwoRows net sheet starts classes counts level n m) (e : level ≡ true) where
  arcs-at : (k : ℕ) → k < node_count sheet → get_or starts k 0 ≡ first_entry net sheet false k
  arcs-at k l = T.of.start k l ∙ ap (λ (b : Bool). first_entry net sheet b k) (T.even e).arcs

  pub end_low : get_or starts n 0 ≤ get_or starts (n + 1) 0
  end_low =
      let d = T.even e in
      rw (arcs-at n T.left, arcs-at (n + 1) d.inner) (level-low T.of.readable classes T.left T.right d.offers d.inner)

  pub even-rows : LevelRows sheet classes (get_or starts (n + 1) 0 - get_or starts n 0) (get_or starts n 0) (get_or starts m 0)
  even-rows =
      let d = T.even e in
      rw (arcs-at n T.left, arcs-at m T.right, arcs-at (n + 1) d.inner) (level-rows T.of.readable classes T.left T.right d.offers d.inner T.long)

  pub even-walked : all (targets_agree sheet classes (get_or starts n 0) (get_or starts m 0)) (get_or starts (n + 1) 0 - get_or starts n 0)
      ≡ rows_alike (graph (petri_net net) sheet) counts (class_in classes) n m
  even-walked =
      let d = T.even e in
      rw (d.arcs, arcs-at n T.left, arcs-at m T.right, arcs-at (n + 1) d.inner) (level-walked T.of.readable classes T.left T.right d.offers d.inner)
