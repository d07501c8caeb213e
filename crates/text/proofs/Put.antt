-- Pieces that are put one after the other are one text; a text for which there is room lies whole at the buffer's front.
use Rattle.scan.proofs.Basics.{ℕ, zero, suc, ◌+◌, ◌-◌, ◌≤◌, ◌<◌, arith, ◌≡◌, refl, ap, ◌∙◌, List, [], ◌∷◌, ◌++◌, length, take, drop, set, length-append}
use Prim.Native.Nat.{min}
use native.Mathlib.Nat.{not-suc-le-zero, le_of_suc-le-suc}
use lib.Seq.{take-append_seam}
use borrow.Rule.Slice.PartMut.{put_mid}
use Rattle.text.specs.Buffer.{put_at, Put}

-- ---- one piece

put-none : (out : List ℕ) (at : ℕ) → out ≡ put_at out at []
unfolding put_at
put-none [] at = refl
put-none (x ∷ out) zero = refl
put-none (x ∷ out) (suc at) = ap (λ (l : List ℕ). x ∷ l) (put-none out at)

put-length : (out : List ℕ) (at : ℕ) (bytes : List ℕ) → length (put_at out at bytes) ≡ length out
unfolding put_at
put-length [] at bytes = refl
put-length (x ∷ out) (suc at) bytes = ap suc (put-length out at bytes)
put-length (x ∷ out) zero [] = refl
put-length (x ∷ out) zero (b ∷ bytes) = ap suc (put-length out zero bytes)

put_one : (out : List ℕ) (at b : ℕ) → set out at b ≡ put_at out at (b ∷ [])
unfolding put_at
put_one [] at b = refl
put_one (x ∷ out) zero b = ap (λ (l : List ℕ). b ∷ l) (put-none out zero)
put_one (x ∷ out) (suc at) b = ap (λ (l : List ℕ). x ∷ l) (put_one out at b)

-- as many bytes as there is room for, copied at once
mid-put : (out : List ℕ) (at : ℕ) (bytes : List ℕ) (n : ℕ) → n ≡ min (length bytes) (length out - at) → at ≤ length out → put_mid at n out (take n bytes) ≡ put_at out at bytes
unfolding put_at
mid-put [] at bytes n e l = let q : at ≡ 0 = omega arith in let r : n ≡ 0 = omega arith in rw (q, r)
mid-put (x ∷ out) (suc at) bytes n e l = ap (λ (t : List ℕ). x ∷ t) (mid-put out at bytes n (omega arith) (omega arith))
mid-put (x ∷ out) zero [] n e l = let r : n ≡ 0 = omega arith in rw r
mid-put (x ∷ out) zero (b ∷ bytes) zero e l = absurd (omega arith)
mid-put (x ∷ out) zero (b ∷ bytes) (suc n) e l = ap (λ (t : List ℕ). b ∷ t) (mid-put out zero bytes n (omega arith) (omega arith))

put-out : (out : List ℕ) (at : ℕ) (bytes : List ℕ) → length out ≤ at → out ≡ put_at out at bytes
unfolding put_at
put-out [] at bytes l = refl
put-out (x ∷ out) zero bytes l = absurd (not-suc-le-zero l)
put-out (x ∷ out) (suc at) bytes l = ap (λ (t : List ℕ). x ∷ t) (put-out out at bytes (le_of_suc-le-suc l))

module _ (out : List ℕ) (at : ℕ) where
  pub nothing_put : Put out at [] at out
  nothing_put = record { behind = omega arith; held = put-none out at }

  pub byte_put : (b : ℕ) → at < length out → Put out at (b ∷ []) (at + 1) (set out at b)
  byte_put b l = record { behind = omega arith; held = put_one out at b }

  pub dropped : (bytes : List ℕ) → length out ≤ at → Put out at bytes at out
  dropped bytes l = record { behind = omega arith; held = put-out out at bytes l }

  pub copied : (bytes : List ℕ) (n k : ℕ) → k ≡ n → n ≡ min (length bytes) (length out - at) → at ≤ length out → Put out at bytes (at + n) (put_mid at k out (take k bytes))
  copied bytes n k q e l = rw q (record { behind = omega arith; held = mid-put out at bytes n e l })

-- ---- one piece behind the other

join : (out : List ℕ) (at : ℕ) (xs ys : List ℕ) (m : ℕ) → m ≡ at + min (length xs) (length out - at) → put_at (put_at out at xs) m ys ≡ put_at out at (xs ++ ys)
unfolding put_at
join [] at xs ys m h = refl
join (x ∷ out) (suc at) xs ys zero h = absurd (omega arith)
join (x ∷ out) (suc at) xs ys (suc m) h = ap (λ (l : List ℕ). x ∷ l) (join out at xs ys m (omega arith))
join (x ∷ out) zero [] ys m h = let e : m ≡ 0 = omega arith in rw e
join (x ∷ out) zero (b ∷ xs) ys zero h = absurd (omega arith)
join (x ∷ out) zero (b ∷ xs) ys (suc m) h = ap (λ (l : List ℕ). b ∷ l) (join out zero xs ys m (omega arith))

pub same_length : {out bytes out' : List ℕ} {at r : ℕ} → Put out at bytes r out' → length out' ≡ length out
same_length {out} {bytes} {out'} {at} p = ap length p.held ∙ put-length out at bytes

pub both-put : {out xs mid ys out' : List ℕ} {at m r : ℕ} → Put out at xs m mid → Put mid m ys r out' → Put out at (xs ++ ys) r out'
both-put {out} {xs} {mid} {ys} {out'} {at} {m} {r} a b =
    record {
      behind = omega (arith, a.behind, b.behind, same_length a, length-append xs ys);
      held = b.held ∙ rw a.held (join out at xs ys m a.behind);
    }

-- ---- the whole text

whole : (out text : List ℕ) → length text ≤ length out → put_at out 0 text ≡ text ++ drop (length text) out
unfolding put_at
whole [] [] l = refl
whole [] (b ∷ text) l = absurd (not-suc-le-zero l)
whole (x ∷ out) [] l = refl
whole (x ∷ out) (b ∷ text) l = ap (λ (t : List ℕ). b ∷ t) (whole out text (le_of_suc-le-suc l))

module _ {out text out' : List ℕ} {r : ℕ} (l : length text ≤ length out) (p : Put out 0 text r out') where
  pub all-put : r ≡ length text
  all-put = omega (arith, p.behind)

  pub put_front : take r out' ≡ text
  put_front = rw (all-put, p.held, whole out text l) (take-append_seam text (drop (length text) out))
