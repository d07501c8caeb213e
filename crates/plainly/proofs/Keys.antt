-- A scan over the arcs, node by node and transition by transition: key n × T + t.
use Rattle.std.specs.Prelude.{Err, Ok}
use Rattle.refusal.specs.Refusal.{Verdict}
use Rattle.scan.proofs.Basics.{ℕ, ◌+◌, ◌*◌, ◌≤◌, ◌<◌, arith, ◌≡◌, sym, ap, ◌∙◌, true, false, none, some}
use native.Mathlib.Nat.{mul-le-mul}
use Rattle.scan.specs.Scan.{found, first, count, bit}
use Rattle.scan.proofs.First.{first_more}
use Rattle.scan.proofs.Count.{count-more, count-le}
use Rattle.refusal.specs.Verdict.{verdict_of}
use Rattle.refusal.specs.declared.Refusal.{Refusal}
use Rattle.refusal.proofs.Verdicts.{answer-none, answer-first}
use Rattle.automaton.specs.Automaton.{Automaton}
use Rattle.sequential.specs.Petri.{PetriNet}
use Rattle.sequential.specs.Tests.{offers}
use Rattle.sequential.proofs.Entries.{row_lt, row-div, row-mod}
use Rattle.plainly.specs.Clauses.{offers_key, arc_fault, cell_fault, key_fault, arc_total}

module _ (N : PetriNet) (A : Automaton) where
  key-fault : (n t : ℕ) → t < N.transitions → key_fault N A (n * N.transitions + t) ≡ cell_fault N A n t (count (offers_key N A) (n * N.transitions + t))
  unfolding key_fault
  key-fault n t l = rw (row-div n N.transitions t l, row-mod n N.transitions t l)

  key-offers : (n t : ℕ) → t < N.transitions → offers_key N A (n * N.transitions + t) ≡ offers N A n t
  unfolding offers_key
  key-offers n t l = rw (row-div n N.transitions t l, row-mod n N.transitions t l)

  -- so many arcs lie before (n, t)
  pub record Counted (n t i : ℕ) : Type 0 where
    pub before : i ≡ count (offers_key N A) (n * N.transitions + t)

  pub counted-start : Counted 0 0 0
  unfolding count
  counted-start = record { before = let q : 0 * N.transitions + 0 ≡ 0 = omega arith in rw q }

  one_more : (n t : ℕ) → n * N.transitions + t + 1 ≡ n * N.transitions + (t + 1)
  one_more n t = omega arith

  counted-more : {n t i : ℕ} → t < N.transitions → Counted n t i → count (offers_key N A) (n * N.transitions + (t + 1)) ≡ i + bit (offers N A n t)
  counted-more {n} {t} {i} k c = rw (← one_more n t, count-more (offers_key N A) (n * N.transitions + t), key-offers n t k, ← c.before)

  pub counted-hit : {n t i : ℕ} → t < N.transitions → offers N A n t ≡ true → Counted n t i → Counted n (t + 1) (i + 1)
  unfolding bit
  counted-hit {n} {t} {i} k e c = record { before = sym (rw e at (counted-more k c)) }

  pub counted-miss : {n t i : ℕ} → t < N.transitions → offers N A n t ≡ false → Counted n t i → Counted n (t + 1) i
  unfolding bit
  counted-miss {n} {t} {i} k e c = record { before = let h = rw e at (counted-more k c) in omega (arith, h) }

  next_row : (n : ℕ) → n * N.transitions + N.transitions ≡ (n + 1) * N.transitions + 0
  next_row n = omega arith

  pub counted-next : {n t i : ℕ} → t ≡ N.transitions → Counted n t i → Counted (n + 1) 0 i
  counted-next {n} e c = record { before = rw (← next_row n) (rw e at c.before) }

  row-end : {n : ℕ} → n ≡ A.nodes → n * N.transitions + 0 ≡ A.nodes * N.transitions
  row-end e = rw e (omega arith)

  pub counted-all : {n i : ℕ} → n ≡ A.nodes → Counted n 0 i → i ≡ arc_total N A
  unfolding arc_total
  counted-all e c = c.before ∙ rw (row-end e)

  pub counted-few : {n t i v w : ℕ} → n < v → t < w → v ≤ 128 → w ≤ 32 → w ≡ N.transitions → Counted n t i → i < 4096
  counted-few {n} {t} {i} {v} {w} l k few-nodes few-transitions e c =
      let a = row_lt n w t v k l in
      let b : v * w ≤ 128 * 32 = mul-le-mul few-nodes few-transitions in
      let d = count-le (offers_key N A) (n * N.transitions + t) in
      let h = rw (← e) at c.before in
      let g = rw (← e) at d in
      omega arith

  pub total-few : A.nodes ≤ 128 → N.transitions ≤ 32 → arc_total N A ≤ 4096
  unfolding arc_total
  total-few few-nodes few-transitions =
      let b : A.nodes * N.transitions ≤ 128 * 32 = mul-le-mul few-nodes few-transitions in
      omega (arith, count-le (offers_key N A) (A.nodes * N.transitions), b)

  -- and nothing is found at them
  pub record Passing (n t i : ℕ) : Type 0 where
    pub counted : Counted n t i
    pub passed : first (key_fault N A) (n * N.transitions + t) ≡ none

  pub passing-start : Passing 0 0 0
  unfolding first
  passing-start = record { counted = counted-start; passed = let q : 0 * N.transitions + 0 ≡ 0 = omega arith in rw q }

  module _ {n t i : ℕ} (k : t < N.transitions) (p : Passing n t i) where
    -- a cell with no arc
    pub passing-miss : A.arc n t ≡ none → Passing n (t + 1) i
    unfolding offers found cell_fault
    passing-miss e = record {
      counted = counted-miss k (rw e) p.counted;
      passed = rw (← one_more n t) (first_more _ _ p.passed (key-fault n t k ∙ rw e));
    }

    module _ {m : ℕ} (e : A.arc n t ≡ some m) {v : Verdict} (h : v ≡ verdict_of (arc_fault N A n t i m)) where
      told : v ≡ verdict_of (key_fault N A (n * N.transitions + t))
      unfolding cell_fault
      told = h ∙ ap verdict_of (sym (key-fault n t k ∙ rw (← p.counted.before, e)))

      pub passing-hit : v ≡ Ok tt → Passing n (t + 1) (i + 1)
      unfolding offers found
      passing-hit a = record { counted = counted-hit k (rw e) p.counted; passed = rw (← one_more n t) (first_more _ _ p.passed (answer-none _ (sym told ∙ a))) }

      pub passing-fault : n < A.nodes → {r : Refusal} → v ≡ Err r → v ≡ verdict_of (first (key_fault N A) (A.nodes * N.transitions))
      passing-fault l {r} a = answer-first _ _ _ _ r p.passed told a (row_lt n N.transitions t A.nodes k l)

  pub passing-next : {n t i : ℕ} → t ≡ N.transitions → Passing n t i → Passing (n + 1) 0 i
  passing-next {n} e p = record { counted = counted-next e p.counted; passed = rw (← next_row n) (rw e at p.passed) }

  pub passing-all : {n i : ℕ} → n ≡ A.nodes → Passing n 0 i → first (key_fault N A) (A.nodes * N.transitions) ≡ none
  passing-all e p = rw (← row-end e) p.passed
