-- A walk along keys that rise: from the lower bound of a key to that of the next.
use Rattle.scan.proofs.Basics.{ℕ, suc, ◌+◌, ◌<◌, arith, ◌≡◌, List}
use native.Mathlib.Decide.{dec_lt}
use Rattle.table.specs.Table.{key_at, Rising}
use Rattle.table.proofs.Table.{rising}
use Rattle.table.proofs.Bisection.{LowerBound}

module _ (words : List ℕ) (offset entries : ℕ) (up : Rising words offset entries) where
  pub next-hit : (k r : ℕ) → r < entries → key_at words offset r ≡ k → LowerBound words offset entries k r → LowerBound words offset entries (suc k) (r + 1)
  next-hit k r l e b = record {
    within = omega arith;
    below = λ i m. elim (dec_lt i r) [ yes q ↦ let a = b.below i q in omega arith | no q ↦ let z : i ≡ r = omega arith in rw z (omega arith) ];
    above = λ i m n. let a = rising words offset entries up r i (omega arith) n in omega arith;
  }

  pub next-miss : (k r : ℕ) → (r < entries → key_at words offset r ≡ k → ⊥) → LowerBound words offset entries k r → LowerBound words offset entries (suc k) r
  next-miss k r h b = record {
    within = b.within;
    below = λ i m. let a = b.below i m in omega arith;
    above = λ i m n. let a = b.above r (omega arith) (omega arith) in elim (dec_lt r i) [
      | yes q ↦ let d = rising words offset entries up r i q n in omega arith
      | no q ↦ let z : i ≡ r = omega arith in
          rw z (elim (dec_lt k (key_at words offset r)) [ yes g ↦ g | no g ↦ absurd (h (omega arith) (omega arith)) ])
    ];
  }
