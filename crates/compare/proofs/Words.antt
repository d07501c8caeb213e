-- Words compared: the fronts of two buffers are equal exactly if the lists that were written there are.
use Rattle.scan.proofs.Basics.{ℕ, ◌<◌, ◌≡◌, refl, ap, ◌↔◌, true, eqb, List, length, get_or}
use lib.ListN.{get_or-append}
use lib.Seq.{ext_get_or}
use Rattle.scan.proofs.Tests.{by_test, eqb-true, eq-eqb, and_left, and_right, and_both}
use Rattle.scan.proofs.Every.{all_in, all-out, all-ext}
use Rattle.lending.specs.Call.{written_over}
use Rattle.compare.specs.Compare.{same_at, same_fronts}

-- word for word: §11.8
pub fronts-same : (one two : List ℕ) (m n : ℕ) → (same_fronts one two m n ≡ true) ↔ ((m ≡ n) × ((i : ℕ) → i < m → get_or one i 0 ≡ get_or two i 0))
unfolding same_fronts same_at
fronts-same one two m n = (
  λ e. (eqb-true m n (and_left (eqb m n) _ e), λ i l. eqb-true _ _ (all-out (same_at one two) m (and_right (eqb m n) _ e) i l)),
  λ (q, h). and_both (eqb m n) _ (eq-eqb m n q) (all_in (same_at one two) m (λ i l. eq-eqb _ _ (h i l))),
)

-- whole lists
pub lists-same : (xs ys : List ℕ) → (same_fronts xs ys (length xs) (length ys) ≡ true) ↔ (xs ≡ ys)
lists-same xs ys =
    let (f, g) = fronts-same xs ys (length xs) (length ys) in (
      λ e. let (q, h) = f e in ext_get_or 0 xs ys q h,
      λ e. g (ap length e, λ i l. ap (λ (zs : List ℕ). get_or zs i 0) e),
    )

-- in front of buffers that they were written to
pub fronts-written : (xs ys one two : List ℕ) → same_fronts (written_over xs one) (written_over ys two) (length xs) (length ys) ≡ same_fronts xs ys (length xs) (length ys)
unfolding same_fronts same_at
fronts-written xs ys one two =
    by_test (eqb (length xs) (length ys))
    (λ e. let q = eqb-true (length xs) (length ys) e in rw e (all-ext (same_at (written_over xs one) (written_over ys two)) (same_at xs ys) (length xs)
    (λ i l. rw (get_or-append xs _ 0 i l, get_or-append ys _ 0 i (rw q at l)) refl)))
    (λ e. rw e)
