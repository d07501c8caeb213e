-- Words written one after the other from an index on: more words, one more word, and a buffer that is full.
use Rattle.scan.proofs.Basics.{ℕ, suc, ◌+◌, ◌≤◌, ◌<◌, add-one, arith, ◌≡◌, refl, sym, ap, ◌∙◌, leb, List, [], ◌∷◌, ◌++◌, length, get_or, take, drop, set, length-append}
use native.Mathlib.Nat.{add-zero, zero-add}
use Prim.Native.Nat.{min}
use lib.ListN.{take-append-drop}
use lib.Seq.{sets, sets-eq, length-sets, set_out, take-suc, take-take, take_all, length-take-le}
use Rattle.scan.proofs.Tests.{leb-true, leb-false, by_test}
use Rattle.scan.specs.Placed.{placed, next_place}

sets-append : {A : Type 0} (xs ys out : List A) (at : ℕ) → sets (sets out at xs) (at + length xs) ys ≡ sets out at (xs ++ ys)
sets-append [] ys out at = rw (add-zero at)
sets-append (x ∷ xs) ys out at = let q : at + suc (length xs) ≡ suc at + length xs = omega arith in rw q (sets-append xs ys (set out at x) (suc at))

sets-past : {A : Type 0} (xs out : List A) (at : ℕ) → length out ≤ at → sets out at xs ≡ out
sets-past [] out at l = refl
sets-past (x ∷ xs) out at l = rw (set_out out at x l) (sets-past xs out (suc at) (omega arith))

pub placed-none : {A : Type 0} (out : List A) (at : ℕ) → out ≡ placed out at []
unfolding placed
placed-none out at = refl

-- more words, and one more
pub placed-append : {A : Type 0} (xs ys out : List A) (at : ℕ) → placed (placed out at xs) (at + length xs) ys ≡ placed out at (xs ++ ys)
unfolding placed
placed-append = sets-append

pub placed_one : (xs out : List ℕ) (at v : ℕ) → set (placed out at xs) (at + length xs) v ≡ placed out at (xs ++ (v ∷ []))
unfolding placed
placed_one xs out at v = sets-append xs (v ∷ []) out at

-- past the buffer's end
pub placed_past : {A : Type 0} (xs out : List A) (at : ℕ) → length out ≤ at → placed out at xs ≡ out
unfolding placed
placed_past = sets-past

pub placed-length : {A : Type 0} (xs out : List A) (at : ℕ) → length (placed out at xs) ≡ length out
unfolding placed
placed-length xs out at = length-sets out at xs

-- over the front
pub placed-front : {A : Type 0} (xs out : List A) → length xs ≤ length out → placed out 0 xs ≡ xs ++ drop (length xs) out
unfolding placed
placed-front xs out l = sets-eq xs out 0 (omega arith) ∙ rw (zero-add (length xs))

-- ---- the next place

pub next_fits : (room at : ℕ) (xs : List ℕ) → at + length xs ≤ room → next_place room at xs ≡ at + length xs
unfolding next_place
next_fits room at xs l = omega arith

pub next-append : (room at : ℕ) (xs ys : List ℕ) → next_place room (next_place room at xs) ys ≡ next_place room at (xs ++ ys)
unfolding next_place
next-append room at xs ys = omega (arith, length-append xs ys)

-- what is written on from there
pub placed-next : (xs ys out : List ℕ) (at : ℕ) → placed (placed out at xs) (next_place (length out) at xs) ys ≡ placed out at (xs ++ ys)
unfolding next_place
placed-next xs ys out at =
    by_test (leb (at + length xs) (length out))
    (λ e. let q : next_place (length out) at xs ≡ at + length xs = next_fits (length out) at xs (leb-true _ _ e) in rw q (placed-append xs ys out at))
    (λ e. let m = leb-false (at + length xs) (length out) e in
    placed_past ys (placed out at xs) _ (rw (placed-length xs out at) (omega arith))
    ∙ sym (placed_past ys (placed out at xs) (at + length xs) (rw (placed-length xs out at) (omega arith))) ∙ placed-append xs ys out at)

-- ---- a row written word by word over the front

pub row_more : (row out : List ℕ) (i : ℕ) → i < length row → set (placed out 0 (take i row)) i (get_or row i 0) ≡ placed out 0 (take (i + 1) row)
row_more row out i l =
    let e : 0 + length (take i row) ≡ i = omega (arith, length-take-le i row (omega arith)) in
    rw (add-one, take-suc row i 0 l) (rw e at (placed_one (take i row) out 0 (get_or row i 0)))

-- a loop that met the row's end
pub row-all : {A : Type 0} (row out : List A) (i n : ℕ) → length row ≤ i → i ≤ n → placed out 0 (take i row) ≡ placed out 0 (take n row)
row-all row out i n l m = rw (take_all i row l, take_all n row (omega arith))

-- or the buffer's
pub row-full : {A : Type 0} (row out : List A) (i n : ℕ) → i ≤ length row → length out ≤ i → i ≤ n → placed out 0 (take i row) ≡ placed out 0 (take n row)
row-full row out i n k l m =
    let e : length (take i row) ≡ i = length-take-le i row k in
    sym (placed_past (drop i (take n row)) (placed out 0 (take i row)) (0 + length (take i row)) (rw (placed-length (take i row) out 0) (omega arith)))
    ∙ placed-append (take i row) (drop i (take n row)) out 0 ∙ ap (placed out 0) (rw (← take-take i n row m) (take-append-drop i (take n row)))

-- a row copied at once over the front
pub placed-row : {A : Type 0} (m n : ℕ) (row out : List A) → m ≡ min (min n (length row)) (length out) → take m row ++ drop m out ≡ placed out 0 (take n row)
placed-row m n row out e =
    let k : length (take m row) ≡ m = length-take-le m row (omega arith) in
    sym (rw k at (placed-front (take m row) out (omega arith))) ∙ rest
  where
    rest : placed out 0 (take m row) ≡ placed out 0 (take n row)
    rest =
        by_test (leb n m) (λ h. let q : m ≡ n = omega (arith, leb-true n m h) in rw q)
        (λ h. let l = leb-false n m h in
        by_test (leb (length row) m) (λ g. row-all row out m n (leb-true (length row) m g) (omega arith))
        (λ g. let p = leb-false (length row) m g in row-full row out m n (omega arith) (omega arith) (omega arith)))
