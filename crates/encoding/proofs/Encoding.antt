-- The keys and values of an automaton's words: the keys rise, and the values are the automaton's targets and counts.
use Rattle.scan.proofs.Basics.{ℕ, ◌+◌, ◌*◌, ◌<◌, arith, ◌≡◌, refl, sym, ap, ◌∙◌, ◌⊎◌, inl, inr, ⊎_elim, Bool, true, false, ltb, Option, some, List, length, length-append}
use Rattle.scan.proofs.Tests.{ltb-true, lt-ltb}
use Rattle.scan.specs.Scan.{when, found}
use Rattle.scan.proofs.First.{when-some, when-hit}
use Rattle.automaton.specs.Automaton.{Automaton}
use Rattle.sequential.specs.Petri.{PetriNet}
use Rattle.encoding.specs.Encoding.{gather_rows, key_of_arc, held, key_of_count, value_of_count, keys, values}
use Rattle.encoding.proofs.Lists.{Between, between-append, Stands, stands-left, stands-right, stands-cases}
use Rattle.encoding.proofs.Gather.{rows-between, rows-paired, rows_out, rows_in}

pub found-when : (b : Bool) (x : ℕ) → found (when b x) ≡ b
unfolding found when
found-when true x = refl
found-when false x = refl

found_of_lem : (o : Option ℕ) (m : ℕ) → o ≡ some m → found o ≡ true
unfolding found
found_of_lem o m e = rw e

-- ---- what an automaton says

-- §3.5
pub record ArcAt (N : PetriNet) (A : Automaton) (k v : ℕ) : Type 0 where
  pub node : ℕ
  pub transition : ℕ
  pub is_node : node < A.nodes
  pub is-transition : transition < N.transitions
  pub key : k ≡ node * N.transitions + transition
  pub arc : A.arc node transition ≡ some v

-- §3.6
pub record CountAt (N : PetriNet) (A : Automaton) (k v : ℕ) : Type 0 where
  pub node : ℕ
  pub place : ℕ
  pub is_node : node < A.nodes
  pub is_place : place < N.places
  pub key : k ≡ A.nodes * N.transitions + node * N.places + place
  pub value : held N A node place ≡ v
  pub positive : 0 < v

-- key k has the value v
abbrev pub Says : PetriNet → Automaton → ℕ → ℕ → Type 0
Says N A k v = ArcAt N A k v ⊎ CountAt N A k v

module _ (N : PetriNet) (A : Automaton) where
  -- ---- one key

  key-of-arc : (n t k : ℕ) → key_of_arc N A n t ≡ some k → n * N.transitions + t ≡ k
  unfolding key_of_arc
  key-of-arc n t k e = (when-some (found (A.arc n t)) (n * N.transitions + t) k e).1

  key-of-count : (n p k : ℕ) → key_of_count N A n p ≡ some k → A.nodes * N.transitions + n * N.places + p ≡ k
  unfolding key_of_count
  key-of-count n p k e = (when-some (ltb 0 (held N A n p)) (A.nodes * N.transitions + n * N.places + p) k e).1

  arcs-together : (n t : ℕ) → found (key_of_arc N A n t) ≡ found (A.arc n t)
  unfolding key_of_arc
  arcs-together n t = found-when (found (A.arc n t)) (n * N.transitions + t)

  counts-together : (n p : ℕ) → found (key_of_count N A n p) ≡ found (value_of_count N A n p)
  unfolding key_of_count value_of_count
  counts-together n p = found-when (ltb 0 (held N A n p)) _ ∙ sym (found-when (ltb 0 (held N A n p)) _)

  -- ---- the keys and the values, arcs first

  abbrev arc_keys : List ℕ
  arc_keys = gather_rows (key_of_arc N A) N.transitions A.nodes

  abbrev count_keys : List ℕ
  count_keys = gather_rows (key_of_count N A) N.places A.nodes

  abbrev targets : List ℕ
  targets = gather_rows A.arc N.transitions A.nodes

  abbrev counts : List ℕ
  counts = gather_rows (value_of_count N A) N.places A.nodes

  arcs-paired : length arc_keys ≡ length targets
  arcs-paired = rows-paired (key_of_arc N A) A.arc arcs-together N.transitions A.nodes

  counts-paired : length count_keys ≡ length counts
  counts-paired = rows-paired (key_of_count N A) (value_of_count N A) counts-together N.places A.nodes

  pub keys-paired : length (keys N A) ≡ length (values N A)
  unfolding keys values
  keys-paired = length-append arc_keys count_keys ∙ omega (arith, arcs-paired, counts-paired) ∙ sym (length-append targets counts)

  -- §3.4
  pub keys_between : Between (keys N A) 0 (A.nodes * N.transitions + A.nodes * N.places)
  unfolding keys
  keys_between =
      let z : 0 + A.nodes * N.transitions ≡ A.nodes * N.transitions = omega arith in
      between-append {middle = A.nodes * N.transitions} (omega arith) (omega arith)
      (rw z at (rows-between (key_of_arc N A) 0 N.transitions A.nodes (λ n t k e. omega (arith, key-of-arc n t k e))))
      (rows-between (key_of_count N A) (A.nodes * N.transitions) N.places A.nodes (λ n p k e. sym (key-of-count n p k e)))

  -- ---- what stands in them is what the automaton says

  arc-out : (k v : ℕ) → Stands arc_keys targets k v → ArcAt N A k v
  arc-out k v s =
      let (n, t, l, m, a, b) = rows_out (key_of_arc N A) A.arc arcs-together N.transitions A.nodes k v s in
      record { node = n; transition = t; is_node = l; is-transition = m; key = sym (key-of-arc n t k a); arc = b }

  count-out : (k v : ℕ) → Stands count_keys counts k v → CountAt N A k v
  unfolding value_of_count
  count-out k v s =
      let (n, p, l, m, a, b) = rows_out (key_of_count N A) (value_of_count N A) counts-together N.places A.nodes k v s in
      let (z, e) = when-some (ltb 0 (held N A n p)) (held N A n p) v b in
      record { node = n; place = p; is_node = l; is_place = m; key = sym (key-of-count n p k a); value = e; positive = rw e at (ltb-true 0 (held N A n p) z) }

  pub stands→says : (k v : ℕ) → Stands (keys N A) (values N A) k v → Says N A k v
  unfolding keys values
  stands→says k v s = ⊎_elim (λ x. inl (arc-out k v x)) (λ x. inr (count-out k v x)) (stands-cases arc_keys count_keys targets counts arcs-paired s)

  arc-in : (k v : ℕ) → ArcAt N A k v → Stands arc_keys targets k v
  unfolding key_of_arc
  arc-in k v a =
      rows_in (key_of_arc N A) A.arc arcs-together N.transitions A.nodes k v a.node a.transition a.is_node a.is-transition
      (when-hit _ _ (found_of_lem _ v a.arc) ∙ ap some (sym a.key)) a.arc

  count-in : (k v : ℕ) → CountAt N A k v → Stands count_keys counts k v
  unfolding key_of_count value_of_count
  count-in k v c =
      let z : ltb 0 (held N A c.node c.place) ≡ true = rw c.value (lt-ltb 0 v c.positive) in
      rows_in (key_of_count N A) (value_of_count N A) counts-together N.places A.nodes k v c.node c.place c.is_node c.is_place
      (when-hit _ _ z ∙ ap some (sym c.key)) (when-hit _ _ z ∙ ap some c.value)

  pub says→stands : (k v : ℕ) → Says N A k v → Stands (keys N A) (values N A) k v
  unfolding keys values
  says→stands k v (inl a) = stands-left arc_keys count_keys targets counts arcs-paired (arc-in k v a)
  says→stands k v (inr c) = stands-right arc_keys count_keys targets counts arcs-paired (count-in k v c)
