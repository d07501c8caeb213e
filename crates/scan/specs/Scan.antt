-- The vocabulary of the checks: what is found, counted or summed over 0, 1, .., n - 1.
-- Each definition grows at its end, as a rising loop does: at n + 1 it is what it was at n, with index n.
use Rattle.std.specs.Prelude.{ℕ, zero, suc, ◌+◌, max, Bool, true, false, ◌&&◌, ◌||◌, List, [], ◌∷◌, ◌++◌}
use Rattle.std.proofs.Math.Option.{Option, none, some, get_or}

module _ {A : Type 0} where
  -- the first of two findings
  unfoldable pub or_else : Option A → Option A → Option A
  or_else none b = b
  or_else (some a) b = some a

  -- a finding where a test holds
  unfoldable pub when : Bool → A → Option A
  when true a = some a
  when false a = none

  -- whether there is a finding
  unfoldable pub found : Option A → Bool
  found none = false
  found (some a) = true

  -- the first finding of f
  unfoldable pub first : (ℕ → Option A) → ℕ → Option A
  first f zero = none
  first f (suc n) = or_else (first f n) (f n)

  -- the list of f's values
  unfoldable pub tabulate : (ℕ → A) → ℕ → List A
  tabulate f zero = []
  tabulate f (suc n) = tabulate f n ++ (f n ∷ [])

-- a function of what is found, or d if nothing is
abbrev pub found_or {ℓ} : {X : Type ℓ} → X → (ℕ → X) → Option ℕ → X
found_or d f none = d
found_or d f (some i) = f i

-- every index passes
unfoldable pub all : (ℕ → Bool) → ℕ → Bool
all f zero = true
all f (suc n) = all f n && f n

-- some index passes
unfoldable pub any : (ℕ → Bool) → ℕ → Bool
any f zero = false
any f (suc n) = any f n || f n

unfoldable pub bit : Bool → ℕ
bit true = 1
bit false = 0

-- how many indices pass
unfoldable pub count : (ℕ → Bool) → ℕ → ℕ
count f zero = 0
count f (suc n) = count f n + bit (f n)

-- an index that passes, as a finding
unfoldable pub passing : (ℕ → Bool) → ℕ → Option ℕ
passing f i = when (f i) i

-- the least index that passes, or n
unfoldable pub least : (ℕ → Bool) → ℕ → ℕ
least f n = get_or (first (passing f) n) n

unfoldable pub sum : (ℕ → ℕ) → ℕ → ℕ
sum f zero = 0
sum f (suc n) = sum f n + f n

-- the greatest value, 0 over no index
unfoldable pub greatest : (ℕ → ℕ) → ℕ → ℕ
greatest f zero = 0
greatest f (suc n) = max (greatest f n) (f n)
