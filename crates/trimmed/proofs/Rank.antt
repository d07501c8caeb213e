-- The indices that pass a test, listed in rising order: each stands at its rank, which is how many pass before it.
use Rattle.scan.proofs.Basics.{ℕ, zero, suc, ◌+◌, ◌<◌, arith, ◌≡◌, refl, sym, ap, ◌∙◌, ⊎_elim, Bool, true, false, List, [], ◌∷◌, ◌++◌, length, get_or}
use mathlib.Core.List.{append-nil}
use lib.ListN.{get_or-append}
use lib.Seq.{get_or-append-add}
use Rattle.scan.specs.Scan.{bit, count, passing}
use Rattle.scan.proofs.Tests.{by_test, by_less, lt-suc-cases}
use Rattle.scan.proofs.Count.{count-ext, count-full}
use Rattle.scan.proofs.First.{when-hit, when-miss}
use Rattle.encoding.specs.Encoding.{gather}
use Rattle.encoding.proofs.Gather.{finds, gather-length}
use Rattle.encoding.proofs.Encoding.{found-when}

module _ (f : ℕ → Bool) where
  abbrev pub listed : ℕ → List ℕ
  listed n = gather (passing f) n

  pub listed-length : (n : ℕ) → length (listed n) ≡ count f n
  listed-length n = gather-length (passing f) n ∙ count-ext (finds (passing f)) f n (λ i l. unfold finds passing in (found-when _ _))

  count-hit : (n : ℕ) → f n ≡ true → count f (suc n) ≡ count f n + 1
  unfolding count bit
  count-hit n e = rw e refl

  count-miss : (n : ℕ) → f n ≡ false → count f (suc n) ≡ count f n
  unfolding count bit
  count-miss n e = rw e (omega arith)

  listed-hit : (n : ℕ) → f n ≡ true → listed (suc n) ≡ listed n ++ (n ∷ [])
  unfolding gather passing
  listed-hit n e = rw (when-hit (f n) n e) refl

  listed-miss : (n : ℕ) → f n ≡ false → listed (suc n) ≡ listed n
  unfolding gather passing
  listed-miss n e = rw (when-miss (f n) n e) (append-nil (listed n))

  -- ranks rise
  pub rank_less : (n m : ℕ) → m < n → f m ≡ true → count f m < count f n
  rank_less zero m l e = absurd (omega arith)
  rank_less (suc n) m l e =
      ⊎_elim (λ (q : m ≡ n). rw q (omega (arith, count-hit n (rw q at e))))
      (λ (k : m < n). by_test (f n) (λ h. omega (arith, rank_less n m k e, count-hit n h)) (λ h. omega (arith, rank_less n m k e, count-miss n h))) (lt-suc-cases l)

  -- an index that passes stands at its rank
  pub listed_at : (n m : ℕ) → m < n → f m ≡ true → get_or (listed n) (count f m) 0 ≡ m
  listed_at zero m l e = absurd (omega arith)
  listed_at (suc n) m l e =
      ⊎_elim (λ (q : m ≡ n).
      let z : count f n ≡ length (listed n) + 0 = omega (arith, listed-length n) in
      rw (q, listed-hit n (rw q at e), z) (get_or-append-add (listed n) (n ∷ []) 0 0))
      (λ (k : m < n). by_test (f n)
      (λ h. let z : count f m < length (listed n) = omega (arith, listed-length n, rank_less n m k e) in
      rw (listed-hit n h) (get_or-append (listed n) (n ∷ []) 0 (count f m) z ∙ listed_at n m k e))
      (λ h. rw (listed-miss n h) (listed_at n m k e))) (lt-suc-cases l)

  -- and nothing else stands in the list
  pub record Ranked (n i : ℕ) : Type 0 where
    pub index : ℕ
    pub below : index < n
    pub passes : f index ≡ true
    pub rank : count f index ≡ i

  pub ranked : (n i : ℕ) → i < count f n → Ranked n i
  unfolding count
  ranked zero i l = absurd (omega arith)
  ranked (suc n) i l =
      by_less i (count f n) (λ k. let r = ranked n i k in record { index = r.index; below = omega (arith, r.below); passes = r.passes; rank = r.rank })
      (λ k. by_test (f n) (λ h. record { index = n; below = omega arith; passes = h; rank = omega (arith, count-hit n h) })
      (λ h. absurd (omega (arith, count-miss n h))))

  module _ (n : ℕ) where
    pub ranked-at : (i : ℕ) (l : i < count f n) → get_or (listed n) i 0 ≡ (ranked n i l).index
    ranked-at i l = let r = ranked n i l in ap (λ (k : ℕ). get_or (listed n) k 0) (sym r.rank) ∙ listed_at n r.index r.below r.passes

    -- it rises
    pub listed-rising : (i j : ℕ) → i < j → j < count f n → get_or (listed n) i 0 < get_or (listed n) j 0
    listed-rising i j l h =
        let k : i < count f n = omega arith in
        let x = ranked n i k in
        let y = ranked n j h in
        rw (ranked-at i k, ranked-at j h) (by_less x.index y.index (λ z. z)
        (λ z. absurd (⊎_elim (λ (e : y.index ≡ x.index). omega (arith, x.rank, y.rank, ap (count f) e))
        (λ (m : y.index < x.index). omega (arith, x.rank, y.rank, rank_less x.index y.index m y.passes)) (lt-suc-cases {i = y.index} {n = x.index} (omega arith)))))

  -- where all pass, ranks are the indices
  pub listed-all : (n : ℕ) → ((i : ℕ) → i < n → f i ≡ true) → (i : ℕ) → i < n → get_or (listed n) i 0 ≡ i
  listed-all n h i l = rw (count-full f i (λ j k. h j (omega arith))) at (listed_at n i l (h i l))
