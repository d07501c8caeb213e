-- Bytes, digits and texts one after the other.
use Rattle.scan.proofs.Basics.{ℕ, zero, suc, ◌+◌, ◌/◌, ◌%◌, ◌≤◌, ◌<◌, add-one, arith, ◌≡◌, refl, List, [], ◌∷◌, ◌++◌}
use Rattle.text.specs.Buffer.{Put}
use Rattle.text.specs.Decimal.{digit, decimal}
use Rattle.text.specs.Lines.{kind_name, joined}
use Rattle.text.proofs.Decimal.{decimal-one, decimal-two, decimal-more-two}
use Rattle.text.proofs.Put.{nothing_put, both-put}

module _ (f : ℕ → List ℕ) where
  joined-more : (i : ℕ) → joined f i ++ f i ≡ joined f (i + 1)
  unfolding joined
  joined-more i = rw add-one

  pub none-joined : (out : List ℕ) (at : ℕ) → Put out at (joined f 0) at out
  unfolding joined
  none-joined out at = nothing_put out at

  -- a text more
  pub more-joined : {out mid out' : List ℕ} {at m r : ℕ} (i : ℕ) → Put out at (joined f i) m mid → Put mid m (f i) r out' → Put out at (joined f (i + 1)) r out'
  more-joined i a b = rw (← joined-more i) (both-put a b)

  pub all-joined : {out out' : List ℕ} {at r : ℕ} (i n : ℕ) → i ≤ n → n ≤ i → Put out at (joined f i) r out' → Put out at (joined f n) r out'
  all-joined i n l h a = let e : i ≡ n = omega arith in rw e at a

module _ {out out' : List ℕ} {at r : ℕ} where
  -- the only digit, and the last two
  pub one-digit : (n : ℕ) → n < 10 → Put out at (digit n ∷ []) r out' → Put out at (decimal n) r out'
  one-digit n l a = rw (decimal-one n l) at a

  pub two-put : (n : ℕ) → 10 ≤ n → n < 100 → Put out at (digit (n / 10 % 10) ∷ digit (n % 10) ∷ []) r out' → Put out at (decimal n) r out'
  two-put n l h a = rw (decimal-two n l h) at a

  pub two-more : {mid : List ℕ} {m : ℕ} (n : ℕ) → 100 ≤ n → Put out at (decimal (n / 100)) m mid → Put mid m (digit (n / 10 % 10) ∷ digit (n % 10) ∷ []) r out'
      → Put out at (decimal n) r out'
  two-more n l a b = rw (decimal-more-two n l) at (both-put a b)

pub record-name : (kind : ℕ) → 4 ≤ kind → kind_name kind ≡ " record"
record-name zero l = absurd (omega arith)
record-name (suc zero) l = absurd (omega arith)
record-name (suc (suc zero)) l = absurd (omega arith)
record-name (suc (suc (suc zero))) l = absurd (omega arith)
record-name (suc (suc (suc (suc k)))) l = refl
