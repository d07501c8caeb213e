-- A row of 32 numbers that a loop stores one by one: those before the counter are stored.
use Rattle.scan.proofs.Basics.{ℕ, ◌+◌, ◌≤◌, ◌<◌, arith, ◌≡◌, List, length, get_or, set, length-set}
use Rattle.scan.specs.Scan.{tabulate}
use Rattle.scan.proofs.Tabulate.{tabulate-is, stored_more}

pub record Storing (f : ℕ → ℕ) (n : ℕ) (row : List ℕ) (i : ℕ) : Type 0 where
  pub few : n ≤ 32
  pub within : i ≤ n
  pub stored : (x : ℕ) → x < i → get_or row x 0 ≡ f x
  pub long : length row ≡ 32

pub storing-none : {f : ℕ → ℕ} {n : ℕ} {row : List ℕ} → n ≤ 32 → length row ≡ 32 → Storing f n row 0
storing-none l e = record { few = l; within = omega arith; stored = λ x l. absurd (omega arith); long = e }

pub storing-more : {f : ℕ → ℕ} {n v i : ℕ} {row : List ℕ} → Storing f n row i → i < n → v ≡ f i → Storing f n (set row i v) (i + 1)
storing-more {row = row} w l e = record {
  few = w.few;
  within = omega arith;
  stored = stored_more _ row _ _ w.stored (omega (arith, w.few, w.long)) e;
  long = simp length-set w.long;
}

pub storing-all : {f : ℕ → ℕ} {i : ℕ} {row : List ℕ} → Storing f 32 row i → 32 ≤ i → row ≡ tabulate f 32
storing-all w l = tabulate-is _ 0 32 _ w.long (λ x k. w.stored x (omega arith))
