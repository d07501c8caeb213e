-- What the clauses find over the graph of the words is what the definitions of the fast engine find.
use Rattle.scan.proofs.Basics.{ℕ, zero, suc, ◌+◌, ◌*◌, ◌/◌, ◌%◌, ◌≤◌, ◌<◌, add-one, arith, ◌≡◌, refl, sym, ap, ◌∙◌, true, false, Option, none, some, option_map, List}
use native.Mathlib.Nat.{div-lt_iff_lt-mul, mod-lt, div-add-mod'}
use native.Mathlib.Decide.{le_ind}
use Rattle.scan.specs.Scan.{or_else, first, found, count, bit}
use Rattle.scan.proofs.First.{first-ext}
use Rattle.scan.proofs.Every.{all-ext}
use Rattle.scan.proofs.Tests.{lt-ltb, le-ltb, by_less}
use Rattle.table.proofs.Table.{entry-some, entry-none}
use Rattle.refusal.specs.Finding.{line_finds, found_at}
use Rattle.automaton.specs.Automaton.{Automaton}
use Rattle.sequential.specs.Petri.{PetriNet}
use Rattle.sequential.specs.Words.{node_count, entry_count, entry_key, entry_value, entry_with_key, arc_keys, arc_entry, arc, graph, is_arc, arc_node, arc_transition}
use Rattle.sequential.specs.Tests.{offers}
use Rattle.sequential.specs.Check as fast
use Rattle.sequential.specs.Known.{ArcsHold}
use Rattle.sequential.proofs.Entries.{entry-target, marking-at, key-rises}
use Rattle.sequential.proofs.Faults.{arc-fault, no-arc-fault, graph-fault, is_arc↔}
use Rattle.sequential.proofs.Numbers.{arcs-counted}
use Rattle.plainly.specs.Clauses.{start_fault, node_fault, root_fault, lands_at, lands, arc_fault, offers_key, cell_fault, key_fault, reach_fault, return_fault, clauses_fault, arc_total, await_total}

or_nothing : {A : Type 0} (o : Option A) → or_else o none ≡ o
unfolding or_else
or_nothing none = refl
or_nothing (some a) = refl

-- a scan that finds nothing from c on
first_stops : {A : Type 0} (f : ℕ → Option A) (c n : ℕ) → c ≤ n → ((i : ℕ) → c ≤ i → i < n → f i ≡ none) → first f n ≡ first f c
unfolding first
first_stops f c n l h =
    le_ind (λ (m : ℕ). m ≤ n → first f m ≡ first f c) (λ k. refl) (λ m k e j. rw (h m k (omega arith)) (or_nothing (first f m) ∙ e (omega arith))) n l (omega arith)

module _ (N : PetriNet) (sheet : List ℕ) (T : 0 < N.transitions) (w : ArcsHold N sheet) where
  abbrev A : Automaton
  A = graph N sheet

  abbrev before : ℕ → ℕ
  before k = count (offers_key N A) k

  -- the arc of a key
  arc-key : (k : ℕ) → k < arc_keys N sheet → arc N sheet (k / N.transitions) (k % N.transitions) ≡ option_map (entry_value sheet) (entry_with_key sheet k)
  unfolding arc arc_entry arc_keys
  arc-key k l =
      rw (lt-ltb (k / N.transitions) (node_count sheet) ((div-lt_iff_lt-mul T).1 l), lt-ltb (k % N.transitions) N.transitions (mod-lt k T), div-add-mod' k N.transitions)

  lands-same : (k i : ℕ) → entry_key sheet i ≡ k → entry_value sheet i < node_count sheet
      → fast.arc_lands N sheet i ≡ lands N A (k / N.transitions) (k % N.transitions) (entry_value sheet i)
  unfolding fast.arc_lands fast.lands_at lands lands_at arc_node arc_transition
  lands-same k i e l = all-ext _ _ N.places (λ p m. rw (marking-at N sheet (entry_value sheet i) p l m, e))

  same-fault : (k i : ℕ) → i < entry_count sheet → k < arc_keys N sheet → entry_key sheet i ≡ k
      → fast.arc_fault N sheet i ≡ arc_fault N A (k / N.transitions) (k % N.transitions) i (entry_value sheet i)
  unfolding arc_fault fast.arc_holds fast.arc_has_room arc_node arc_transition
  same-fault k i j l e =
      let a : is_arc N sheet i ≡ true = (is_arc↔ N sheet i).1 (rw e l) in
      arc-fault N sheet i a ∙ rw (lands-same k i e (entry-target N sheet T w i j a), e)

  no-arc-from : (i : ℕ) → arc_keys N sheet ≤ entry_key sheet i → is_arc N sheet i ≡ false
  unfolding is_arc
  no-arc-from i l = le-ltb (entry_key sheet i) (arc_keys N sheet) l

  -- entries and keys in step: as many entries lie below a key as arcs
  pub record Step (k : ℕ) : Type 0 where
    pub within : before k ≤ entry_count sheet
    pub below : (i : ℕ) → i < before k → entry_key sheet i < k
    pub above : (i : ℕ) → before k ≤ i → i < entry_count sheet → k ≤ entry_key sheet i
    pub same : first (key_fault N A) k ≡ first (fast.arc_fault N sheet) (before k)

  offered : (k : ℕ) → k < arc_keys N sheet → (o : Option ℕ) → entry_with_key sheet k ≡ o → offers_key N A k ≡ found o
  unfolding offers_key offers found
  offered k l none e = rw (arc-key k l, e)
  offered k l (some i) e = rw (arc-key k l, e)

  key-none : (k : ℕ) → k < arc_keys N sheet → entry_with_key sheet k ≡ none → key_fault N A k ≡ none
  unfolding key_fault cell_fault
  key-none k l e = rw (arc-key k l, e)

  key-some : (k i : ℕ) → k < arc_keys N sheet → entry_with_key sheet k ≡ some i → key_fault N A k ≡ arc_fault N A (k / N.transitions) (k % N.transitions) (before k) (entry_value sheet i)
  unfolding key_fault cell_fault
  key-some k i l e = rw (arc-key k l, e)

  one-arc : (k : ℕ) → offers_key N A k ≡ true → before (suc k) ≡ before k + 1
  unfolding count bit
  one-arc k e = rw e

  no-arc : (k : ℕ) → offers_key N A k ≡ false → before (suc k) ≡ before k
  unfolding count bit
  no-arc k e = rw e (omega arith)

  step-none : (k : ℕ) → k < arc_keys N sheet → entry_with_key sheet k ≡ none → Step k → Step (suc k)
  unfolding first found entry_with_key entry_key
  step-none k l e s =
      let q : before (suc k) ≡ before k = no-arc k (offered k l none e) in
      record {
        within = rw q s.within;
        below = λ i m. let z = s.below i (rw q at m) in omega arith;
        above = λ i m j. let z = s.above i (rw q at m) j in let d = entry-none sheet 2 (entry_count sheet) k e i j in omega (arith, d);
        same = rw (q, key-none k l e) (or_nothing (first (key_fault N A) k) ∙ s.same);
      }

  step-some : (k i : ℕ) → k < arc_keys N sheet → entry_with_key sheet k ≡ some i → i < entry_count sheet → entry_key sheet i ≡ k → Step k → Step (suc k)
  unfolding first found
  step-some k i l e j f s =
      let q : before (suc k) ≡ before k + 1 = one-arc k (offered k l (some i) e) in
      let at : before k ≡ i = place in
      record {
        within = rw q (omega (arith, at));
        below = λ n m. let m' : n < before k + 1 = rw q at m in by_less n (before k) (λ h. let z = s.below n h in omega arith) (λ h. let x : n ≡ i = omega (arith, at) in rw (x, f) (omega arith));
        above = λ n m h. let m' : before k + 1 ≤ n = rw q at m in let z = key-rises N sheet w i n (omega (arith, at)) h in omega (arith, f);
        same = rw (q, add-one, key-some k i l e, s.same, at) (ap (or_else (first (fast.arc_fault N sheet) i)) (sym (same-fault k i j l f)));
      }
    where
      place : before k ≡ i
      place =
          by_less i (before k) (λ h. absurd (let z = s.below i h in omega (arith, f)))
          (λ h. by_less (before k) i (λ g. absurd (let a = key-rises N sheet w (before k) i g j in let b = s.above (before k) (omega arith) (omega arith) in omega (arith, f))) (λ g. omega arith))

  step : (k : ℕ) → k < arc_keys N sheet → Step k → Step (suc k)
  step k l s = go (entry_with_key sheet k) refl
    where
      go : (o : Option ℕ) → entry_with_key sheet k ≡ o → Step (suc k)
      go none e = step-none k l e s
      go (some i) e = let (j, f) = entry-some sheet 2 (entry_count sheet) k i (unfold entry_with_key in e) in step-some k i l e j (unfold entry_key in f) s

  step_start : Step 0
  unfolding count first
  step_start = record { within = omega arith; below = λ i m. absurd (omega arith); above = λ i m j. omega arith; same = refl }

  steps : (k : ℕ) → k ≤ arc_keys N sheet → Step k
  steps zero l = step_start
  steps (suc k) l = step k l (steps k (omega arith))

  -- 14, 27 and 15 in the order of the entries
  pub arcs-same : first (key_fault N A) (node_count sheet * N.transitions) ≡ first (fast.arc_fault N sheet) (entry_count sheet)
  unfolding arc_keys
  arcs-same =
      let s = steps (node_count sheet * N.transitions) (omega arith) in
      s.same ∙ sym (first_stops (fast.arc_fault N sheet) (before (node_count sheet * N.transitions)) (entry_count sheet) s.within
      (λ i l m. no-arc-fault N sheet i (no-arc-from i (s.above i l m))))

  -- ---- the clauses

  start-same : (p : ℕ) → p < N.places → start_fault N A p ≡ fast.start_fault N sheet p
  unfolding start_fault fast.start_fault line_finds found_at
  start-same p l = rw (marking-at N sheet 0 p w.shape.some_node l)

  node-same : (n : ℕ) → n < node_count sheet → node_fault N A n ≡ fast.node_fault N sheet n
  unfolding node_fault fast.node_fault line_finds found_at
  node-same n l = refl

  root-same : root_fault N A ≡ fast.root_fault N sheet
  unfolding root_fault fast.root_fault line_finds found_at
  root-same = refl

  reach-same : (n : ℕ) → n < node_count sheet → reach_fault N A n ≡ fast.reach_fault N sheet n
  unfolding reach_fault fast.reach_fault line_finds found_at
  reach-same n l = refl

  return-same : (n : ℕ) → n < node_count sheet → return_fault N A n ≡ fast.return_fault N sheet n
  unfolding return_fault fast.return_fault line_finds found_at
  return-same n l = refl

  pub clauses-same : clauses_fault N A ≡ fast.graph_fault N sheet
  unfolding clauses_fault
  clauses-same =
      rw (
        first-ext _ _ N.places start-same,
        first-ext _ _ (node_count sheet) node-same,
        root-same,
        arcs-same,
        first-ext _ _ (node_count sheet) reach-same,
        first-ext _ _
            (node_count sheet) return-same,
      )
      (sym (graph-fault N sheet))

  -- ---- the numbers

  pub arcs-total : arc_total N A ≡ fast.arc_count N sheet
  unfolding arc_total offers_key
  arcs-total = sym (arcs-counted N sheet T w)

  pub awaits-total : await_total N A ≡ fast.await_count N sheet
  unfolding await_total fast.await_count
  awaits-total = refl
