-- A function's values as a list: its length, its elements, and the table that a loop fills.
use Rattle.scan.proofs.Basics.{ℕ, zero, suc, ◌+◌, ◌≤◌, ◌<◌, arith, ◌≡◌, refl, sym, ◌∙◌, ⊎_elim, List, [], ◌∷◌, length, get_or, take, set, length-append, get_or-set_same, get_or-set_other, below_more}
use lib.ListN.{get_or-append}
use lib.Seq.{get_or_at, ext_get_or, get_or-take, length-take-le}
use Rattle.scan.specs.Scan.{tabulate}
use Rattle.scan.proofs.Tests.{lt-suc-cases}

module _ {A : Type 0} where
  pub tabulate-length : (f : ℕ → A) (n : ℕ) → length (tabulate f n) ≡ n
  unfolding tabulate
  tabulate-length f zero = refl
  tabulate-length f (suc n) = simp (length-append, tabulate-length f n) (omega arith)

  pub tabulate-at : (f : ℕ → A) (d : A) (n i : ℕ) → i < n → get_or (tabulate f n) i d ≡ f i
  unfolding tabulate
  tabulate-at f d zero i l = absurd (omega arith)
  tabulate-at f d (suc n) i l =
      ⊎_elim (λ (e : i ≡ n). rw e (get_or_at (tabulate f n) (f n) [] d n (tabulate-length f n)))
      (λ (m : i < n). get_or-append (tabulate f n) (f n ∷ []) d i (rw (tabulate-length f n) m) ∙ tabulate-at f d n i m) (lt-suc-cases l)

  -- a list with f's values is its table
  pub tabulate-is : (f : ℕ → A) (d : A) (n : ℕ) (l : List A) → length l ≡ n → ((i : ℕ) → i < n → get_or l i d ≡ f i) → l ≡ tabulate f n
  tabulate-is f d n l e h =
      ext_get_or d l (tabulate f n) (e ∙ sym (tabulate-length f n)) (λ i m. let k : i < n = omega arith in h i k ∙ sym (tabulate-at f d n i k))

  pub tabulate-ext : (f g : ℕ → A) (n : ℕ) → ((i : ℕ) → i < n → f i ≡ g i) → tabulate f n ≡ tabulate g n
  unfolding tabulate
  tabulate-ext f g zero h = refl
  tabulate-ext f g (suc n) h = rw (h n (omega arith), tabulate-ext f g n (λ i l. h i (omega arith)))

  -- the front of a table is the shorter table
  pub take-tabulate : (f : ℕ → A) (n m : ℕ) → n ≤ m → take n (tabulate f m) ≡ tabulate f n
  take-tabulate f n m l =
      tabulate-is f (f 0) n (take n (tabulate f m)) (length-take-le n (tabulate f m) (rw (tabulate-length f m) l))
      (λ i k. get_or-take n (tabulate f m) i (f 0) k ∙ tabulate-at f (f 0) m i (omega arith))

-- one more element stored: what holds of each below i holds of each below i + 1
pub stored_more : (f : ℕ → ℕ) (l : List ℕ) (i v : ℕ) → ((j : ℕ) → j < i → get_or l j 0 ≡ f j) → i < length l → v ≡ f i → (j : ℕ) → j < i + 1 → get_or (set l i v) j 0 ≡ f j
stored_more f l i v h m e = below_more _ i (λ j k. get_or-set_other l i j v 0 (λ q. omega arith) ∙ h j k) (get_or-set_same l i v 0 m ∙ e)
