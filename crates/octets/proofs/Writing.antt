-- Numbers written as bytes, and read from them again.
use Rattle.scan.proofs.Basics.{ℕ, zero, suc, ◌+◌, ◌*◌, ◌/◌, ◌%◌, ◌≤◌, ◌<◌, arith, ◌≡◌, refl, sym, ap, ◌∙◌, List, [], ◌∷◌, ◌++◌, length, get_or, take, drop, add-one}
use Prim.Native.Nat.{◌^◌}
use native.Mathlib.Nat.{div-div-eq-div-mul, div-one, div-eq_of_lt, mod-eq_of_lt, mul-add-div, mul-add-mod_self_left, add-zero, mul-suc, mul-le-mul_left}
use native.Mathlib.Omega.{pow_step}
use Rattle.std.proofs.Common.{drop-drop, append-nil, append_assoc}
use lib.ListN.{take-append-drop}
use lib.Seq.{ext_get_or, sets-eq, length-take-le}
use borrow.Rule.Slice.PartMut.{put_mid}
use Rattle.std.specs.Int.{w32, w64, to_le_bytes}
use Rattle.scan.specs.Scan.{tabulate}
use Rattle.scan.specs.Placed.{placed}
use Rattle.scan.proofs.Placed.{placed-front, placed-append, placed_past, placed-length}
use Rattle.scan.proofs.Tabulate.{tabulate-length, tabulate-at, tabulate-ext}
use Rattle.octets.specs.Words.{word_from, all_words}
use Rattle.octets.specs.Bytes.{byte_of, byte_at, bytes_of, bytes_over, number_from, number_at}
use Rattle.octets.proofs.Decoding.{words_count, word-there}

-- ---- bytes put at an index

-- where all have room
pub placed-mid : (k at : ℕ) (out xs : List ℕ) → k ≡ length xs → at + k ≤ length out → put_mid at k out xs ≡ placed out at xs
unfolding placed
placed-mid k at out xs e l =
    rw (e, drop-drop (length xs) at out) (sym (sets-eq xs out at (omega arith) ∙ append_assoc (take at out) xs (drop (at + length xs) out)))

-- or only the first of them
pub placed-cut : (k at : ℕ) (out xs : List ℕ) → at + k ≡ length out → k < length xs → put_mid at k out (take k xs) ≡ placed out at xs
placed-cut k at out xs e l =
    let w : length (take k xs) ≡ k = length-take-le k xs (omega arith) in
    placed-mid k at out (take k xs) (sym w) (omega arith)
    ∙ sym (placed_past (drop k xs) (placed out at (take k xs)) (at + length (take k xs)) (rw (placed-length (take k xs) out at) (omega arith)))
    ∙ placed-append (take k xs) (drop k xs) out at
    ∙ ap (placed out at) (take-append-drop k xs)

-- ---- the bytes of a number

pub word-bytes : (x : ℕ) → to_le_bytes w32 x ≡ tabulate (byte_of x) 4
unfolding tabulate byte_of
word-bytes x = rw (div-one x) refl

pub number-bytes : (x : ℕ) → to_le_bytes w64 x ≡ tabulate (byte_of x) 8
unfolding tabulate byte_of
number-bytes x = rw (div-one x) refl

-- a table in two parts
tabulate-parts : (f : ℕ → ℕ) (n m : ℕ) → tabulate f n ++ tabulate (λ j. f (n + j)) m ≡ tabulate f (n + m)
unfolding tabulate
tabulate-parts f n zero = append-nil (tabulate f n) ∙ rw (add-zero n) refl
tabulate-parts f n (suc m) =
    let q : n + suc m ≡ suc (n + m) = omega arith in
    sym (append_assoc (tabulate f n) (tabulate (λ j. f (n + j)) m) (f (n + m) ∷ [])) ∙ rw (q, tabulate-parts f n m) refl

module _ (width : ℕ) (numbers : List ℕ) where
  pub bytes-length : length (bytes_of width numbers) ≡ width * length numbers
  unfolding bytes_of
  bytes-length = tabulate-length (byte_at width numbers) (width * length numbers)

  pub byte-there : (i : ℕ) → i < width * length numbers → get_or (bytes_of width numbers) i 0 ≡ byte_at width numbers i
  unfolding bytes_of
  byte-there i l = tabulate-at (byte_at width numbers) 0 (width * length numbers) i l

  -- one number more
  pub number_more : (i : ℕ) (out : List ℕ)
      → placed (placed out 0 (tabulate (byte_at width numbers) (width * i))) (width * i) (tabulate (byte_of (get_or numbers i 0)) width)
      ≡ placed out 0 (tabulate (byte_at width numbers) (width * (i + 1)))
  unfolding byte_at
  number_more i out =
      let f = byte_at width numbers in
      let l : 0 + length (tabulate f (width * i)) ≡ width * i = omega (arith, tabulate-length f (width * i)) in
      let e : width * i + width ≡ width * (i + 1) = rw add-one (sym (mul-suc width i)) in
      rw l at (placed-append (tabulate f (width * i)) (tabulate (byte_of (get_or numbers i 0)) width) out 0)
      ∙ ap (placed out 0) (ap (λ (xs : List ℕ). tabulate f (width * i) ++ xs) (tabulate-ext (byte_of (get_or numbers i 0)) (λ j. f (width * i + j)) width (λ j k.
      let q : (width * i + j) / width ≡ i = mul-add-div (omega arith) i j ∙ rw (div-eq_of_lt k) (add-zero i) in
      let r : (width * i + j) % width ≡ j = mul-add-mod_self_left width i j ∙ mod-eq_of_lt k in
      rw (q, r))) ∙ tabulate-parts f (width * i) width ∙ rw e refl)

  pub bytes-over : (out : List ℕ) → width * length numbers ≤ length out → placed out 0 (bytes_of width numbers) ≡ bytes_over width numbers out
  unfolding bytes_over
  bytes-over out l = placed-front (bytes_of width numbers) out (rw bytes-length l) ∙ rw bytes-length

-- ---- read again

-- a number is its bytes, where it has no more of them
pub number-back : (width x : ℕ) (bytes : List ℕ) (at : ℕ) → ((j : ℕ) → j < width → get_or bytes (at + j) 0 ≡ byte_of x j) → x < 256 ^ width → number_from width bytes at ≡ x
unfolding number_from byte_of
number-back zero x bytes at h l = omega arith
number-back (suc width) x bytes at h l =
    let low : x / 256 < 256 ^ width = omega (arith, rw (pow_step 256 width) at l) in
    let rest = number-back width (x / 256) bytes (at + 1)
    (λ j k. let q : at + 1 + j ≡ at + suc j = omega arith in
    rw q (h (suc j) (omega arith) ∙ rw (pow_step 256 j) (ap (λ (y : ℕ). y % 256) (sym (div-div-eq-div-mul x 256 (256 ^ j)))))) low in
    let first : get_or bytes at 0 ≡ x % 256 = rw (add-zero at, div-one x) at (h 0 (omega arith)) in
    omega arith

module _ (numbers : List ℕ) (i : ℕ) (l : i < length numbers) where
  -- where the buffer's front is their bytes
  pub number-at : (width : ℕ) → 0 < width → (bytes : List ℕ) → ((j : ℕ) → j < width * length numbers → get_or bytes j 0 ≡ byte_at width numbers j)
      → get_or numbers i 0 < 256 ^ width → number_at width bytes i ≡ get_or numbers i 0
  unfolding number_at byte_at
  number-at width z bytes h low =
      number-back width (get_or numbers i 0) bytes (width * i)
      (λ j k. let m : width * i + j < width * length numbers = omega (arith, mul-le-mul_left width l, mul-suc width i) in
      let q : (width * i + j) / width ≡ i = mul-add-div z i j ∙ rw (div-eq_of_lt k) (add-zero i) in
      let r : (width * i + j) % width ≡ j = mul-add-mod_self_left width i j ∙ mod-eq_of_lt k in
      h (width * i + j) m ∙ rw (q, r)) low

-- a word is the number of its four bytes
word_number : (bytes : List ℕ) (at : ℕ) → word_from bytes at ≡ number_from 4 bytes at
unfolding word_from number_from
word_number bytes at = let q : at + 1 + 1 ≡ at + 2 = omega arith in let r : at + 2 + 1 ≡ at + 3 = omega arith in rw (q, r) (omega arith)

-- words that were written are read again
pub words_back : (words : List ℕ) → ((i : ℕ) → i < length words → get_or words i 0 < 4294967296) → all_words (bytes_of 4 words) ≡ words
unfolding number_at
words_back words low =
    let b = bytes-length 4 words in
    let c = words_count (bytes_of 4 words) in
    ext_get_or 0 (all_words (bytes_of 4 words)) words (omega arith)
    (λ i l. let k : i < length words = omega arith in
    sym (word-there (bytes_of 4 words) i (word_from (bytes_of 4 words) (4 * i)) (omega arith) refl)
    ∙ word_number (bytes_of 4 words) (4 * i)
    ∙ number-at words i k 4 (omega arith) (bytes_of 4 words) (byte-there 4 words) (low i k))
