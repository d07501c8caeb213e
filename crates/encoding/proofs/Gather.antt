-- What is gathered over indices, and over rows: how long the list is, at which index each finding is, and how two lists gathered together correspond.
-- f finds something
use Rattle.scan.proofs.Basics.{ℕ, zero, suc, ◌+◌, ◌*◌, ◌<◌, add-one, arith, ◌≡◌, refl, sym, ap, ◌∙◌, ⊎_elim, Bool, Option, none, some, [], ◌++◌, length, length-append}
use native.Mathlib.Nat.{suc-mul}
use Rattle.scan.specs.Scan.{found, bit, count, sum}
use Rattle.scan.proofs.Tests.{true-false, lt-suc-cases}
use Rattle.scan.proofs.Count.{count-ext}
use Rattle.encoding.specs.Encoding.{list_of, gather, gather_rows}
use Rattle.encoding.proofs.Lists.{Between, between-nil, between-append, between-list, Stands, stands-left, stands-right, stands-cases}

unfoldable pub finds : (ℕ → Option ℕ) → ℕ → Bool
finds f i = found (f i)

-- ---- the turns of a loop

pub gather-more : (f : ℕ → Option ℕ) (i : ℕ) → gather f (i + 1) ≡ gather f i ++ list_of (f i)
unfolding gather
gather-more f i = rw add-one

pub rows_none : (f : ℕ → ℕ → Option ℕ) (columns : ℕ) → gather_rows f columns 0 ≡ []
unfolding gather_rows
rows_none f columns = refl

pub rows_more : (f : ℕ → ℕ → Option ℕ) (columns i : ℕ) → gather_rows f columns (i + 1) ≡ gather_rows f columns i ++ gather (f i) columns
unfolding gather_rows
rows_more f columns i = rw add-one

-- ---- how much is gathered

list_length : (o : Option ℕ) → length (list_of o) ≡ bit (found o)
unfolding found bit
list_length none = refl
list_length (some k) = refl

pub gather-length : (f : ℕ → Option ℕ) (n : ℕ) → length (gather f n) ≡ count (finds f) n
unfolding gather count finds
gather-length f zero = refl
gather-length f (suc n) = length-append (gather f n) (list_of (f n)) ∙ omega (arith, list_length (f n), gather-length f n)

pub rows-length : (f : ℕ → ℕ → Option ℕ) (columns n : ℕ) → length (gather_rows f columns n) ≡ sum (λ i. count (finds (f i)) columns) n
unfolding gather_rows sum
rows-length f columns zero = refl
rows-length f columns (suc n) =
    length-append (gather_rows f columns n) (gather (f n) columns) ∙ omega (arith, gather-length (f n) columns, rows-length f columns n)

-- ---- where it lies

pub gather-between : (f : ℕ → Option ℕ) (low n : ℕ) → ((i k : ℕ) → f i ≡ some k → k ≡ low + i) → Between (gather f n) low (low + n)
unfolding gather
gather-between f low zero h = between-nil
gather-between f low (suc n) h =
    let q : low + n + 1 ≡ low + suc n = omega arith in
    between-append (omega arith) (omega arith) (gather-between f low n h) (rw q at (between-list (f n) (low + n) (h n)))

pub rows-between : (f : ℕ → ℕ → Option ℕ) (low columns n : ℕ) → ((i j k : ℕ) → f i j ≡ some k → k ≡ low + i * columns + j)
    → Between (gather_rows f columns n) low (low + n * columns)
unfolding gather_rows
rows-between f low columns zero h = between-nil
rows-between f low columns (suc n) h =
    let q : low + n * columns + columns ≡ low + suc n * columns = omega (arith, suc-mul n columns) in
    between-append (omega arith) (omega arith) (rows-between f low columns n h) (rw q at (gather-between (f n) (low + n * columns) columns (h n)))

-- ---- what stands in two lists that are gathered together

list-out : (o p : Option ℕ) {k v : ℕ} → found o ≡ found p → Stands (list_of o) (list_of p) k v → (o ≡ some k) × (p ≡ some v)
unfolding found
list-out none p e s = absurd (omega (arith, s.below))
list-out (some x) none e s = true-false (found (some x)) refl e
list-out (some x) (some y) e s = let z : s.index ≡ 0 = omega (arith, s.below) in (ap some (rw z at s.key), ap some (rw z at s.value))

list-in : {o p : Option ℕ} {k v : ℕ} → o ≡ some k → p ≡ some v → Stands (list_of o) (list_of p) k v
list-in a b = rw (a, b) (record { index = 0; below = omega arith; key = refl; value = refl })

module _ (f g : ℕ → Option ℕ) (both : (i : ℕ) → found (f i) ≡ found (g i)) where
  pub gather-paired : (n : ℕ) → length (gather f n) ≡ length (gather g n)
  gather-paired n = omega (arith, gather-length f n, gather-length g n, count-ext (finds f) (finds g) n (λ i l. unfold finds in (both i)))

  pub gather-out : (n k v : ℕ) → Stands (gather f n) (gather g n) k v → (i : ℕ) × (i < n) × (f i ≡ some k) × (g i ≡ some v)
  unfolding gather
  gather-out zero k v s = absurd (omega (arith, s.below))
  gather-out (suc n) k v s =
      ⊎_elim (λ x. let (i, l, a, b) = gather-out n k v x in (i, omega arith, a, b)) (λ x. let (a, b) = list-out (f n) (g n) (both n) x in (n, omega arith, a, b))
      (stands-cases (gather f n) (list_of (f n)) (gather g n) (list_of (g n)) (gather-paired n) s)

  pub gather-in : (n k v i : ℕ) → i < n → f i ≡ some k → g i ≡ some v → Stands (gather f n) (gather g n) k v
  unfolding gather
  gather-in zero k v i l a b = absurd (omega arith)
  gather-in (suc n) k v i l a b =
      ⊎_elim (λ e. stands-right (gather f n) (list_of (f n)) (gather g n) (list_of (g n)) (gather-paired n) (list-in (rw e at a) (rw e at b)))
      (λ m. stands-left (gather f n) (list_of (f n)) (gather g n) (list_of (g n)) (gather-paired n) (gather-in n k v i m a b)) (lt-suc-cases l)

module _ (f g : ℕ → ℕ → Option ℕ) (both : (i j : ℕ) → found (f i j) ≡ found (g i j)) (columns : ℕ) where
  pub rows-paired : (n : ℕ) → length (gather_rows f columns n) ≡ length (gather_rows g columns n)
  unfolding gather_rows
  rows-paired zero = refl
  rows-paired (suc n) =
      length-append (gather_rows f columns n) (gather (f n) columns) ∙ rw (rows-paired n, gather-paired (f n) (g n) (both n) columns)
      (sym (length-append (gather_rows g columns n) (gather (g n) columns)))

  pub rows_out : (n k v : ℕ) → Stands (gather_rows f columns n) (gather_rows g columns n) k v
      → (i : ℕ) × (j : ℕ) × (i < n) × (j < columns) × (f i j ≡ some k) × (g i j ≡ some v)
  unfolding gather_rows
  rows_out zero k v s = absurd (omega (arith, s.below))
  rows_out (suc n) k v s =
      ⊎_elim (λ x. let (i, j, l, m, a, b) = rows_out n k v x in (i, j, omega arith, m, a, b))
      (λ x. let (j, m, a, b) = gather-out (f n) (g n) (both n) columns k v x in (n, j, omega arith, m, a, b))
      (stands-cases (gather_rows f columns n) (gather (f n) columns) (gather_rows g columns n) (gather (g n) columns) (rows-paired n) s)

  pub rows_in : (n k v i j : ℕ) → i < n → j < columns → f i j ≡ some k → g i j ≡ some v → Stands (gather_rows f columns n) (gather_rows g columns n) k v
  unfolding gather_rows
  rows_in zero k v i j l m a b = absurd (omega arith)
  rows_in (suc n) k v i j l m a b =
      ⊎_elim
      (λ e. stands-right (gather_rows f columns n) (gather (f n) columns) (gather_rows g columns n) (gather (g n) columns) (rows-paired n)
      (gather-in (f n) (g n) (both n) columns k v j m (rw e at a) (rw e at b)))
      (λ h. stands-left (gather_rows f columns n) (gather (f n) columns) (gather_rows g columns n) (gather (g n) columns) (rows-paired n) (rows_in n k v i j h m a b))
      (lt-suc-cases l)
