-- The rule of the page: one computed test of its numbers, and from it the law of each entry.
use Rattle.scan.proofs.Basics.{ℕ, zero, suc, ◌+◌, ◌-◌, ◌*◌, ◌≤◌, ◌<◌, arith, ◌≡◌, refl, sym, ◌∙◌, Bool, true, ◌&&◌, ltb, leb, eqb, List, [], ◌∷◌, get_or, length}
use Rattle.scan.proofs.Tests.{ltb-true, lt-ltb, leb-true, le-leb, eqb-true, and_left, and_right, by_test}
use lib.ListN.{get_or-append}
use lib.Seq.{get_or-append-add}
use Rattle.row_starts.specs.Page.{lines, joined, page}
use Rattle.row_starts.specs.RowStarts.{on_page, row_start}

abbrev line_right : ℕ → ℕ → List ℕ → Bool
line_right n T [] = true
line_right n T (x ∷ xs) = eqb x (n * T) && line_right n (suc T) xs

abbrev lines_right : ℕ → List (List ℕ) → Bool
lines_right n [] = true
lines_right n (l ∷ ls) = eqb (length l) 32 && (line_right n 1 l && lines_right (suc n) ls)

-- the test: 128 lines of 32 numbers each, in the line of n at T n × T
page-right : lines_right 0 lines && eqb (length lines) 128 ≡ true
unfolding lines
page-right = refl

-- ---- what it says of each entry

in-line : (n T : ℕ) (l : List ℕ) → line_right n T l ≡ true → (i : ℕ) → i < length l → get_or l i 0 ≡ n * (T + i)
in-line n T [] h i m = absurd (omega arith)
in-line n T (x ∷ xs) h zero m = let q : T + 0 ≡ T = omega arith in rw q (eqb-true x (n * T) (and_left (eqb x (n * T)) _ h))
in-line n T (x ∷ xs) h (suc i) m =
    let q : T + suc i ≡ suc T + i = omega arith in rw q (in-line n (suc T) xs (and_right (eqb x (n * T)) _ h) i (omega arith))

in_lines : (n : ℕ) (ls : List (List ℕ)) → lines_right n ls ≡ true → (m : ℕ) → m < length ls → (T : ℕ) → 1 ≤ T → T ≤ 32
    → (get_or (get_or ls m []) (T - 1) 0 ≡ (n + m) * T) × (get_or (joined ls) (32 * m + T - 1) 0 ≡ (n + m) * T)
unfolding joined
in_lines n [] h m k T a b = absurd (omega arith)
in_lines n (l ∷ ls) h zero k T a b =
    let e = eqb-true (length l) 32 (and_left (eqb (length l) 32) _ h) in
    let r = and_left (line_right n 1 l) _ (and_right (eqb (length l) 32) _ h) in
    let q : n + 0 ≡ n = omega arith in
    let p : 1 + (T - 1) ≡ T = omega arith in
    let s : 32 * 0 + T - 1 ≡ T - 1 = omega arith in
    let there : get_or l (T - 1) 0 ≡ n * T = rw p at (in-line n 1 l r (T - 1) (omega arith)) in
    (rw q there, rw (q, s) (get_or-append l (joined ls) 0 (T - 1) (omega arith) ∙ there))
in_lines n (l ∷ ls) h (suc m) k T a b =
    let e = eqb-true (length l) 32 (and_left (eqb (length l) 32) _ h) in
    let q : n + suc m ≡ suc n + m = omega arith in
    let s : 32 * suc m + T - 1 ≡ length l + (32 * m + T - 1) = omega arith in
    let (x, y) = in_lines (suc n) ls (and_right (line_right n 1 l) _ (and_right (eqb (length l) 32) _ h)) m (omega arith) T a b in
    (rw q x, rw (q, s) (get_or-append-add l (joined ls) (32 * m + T - 1) 0 ∙ y))

both : (n T : ℕ) → n < 128 → 1 ≤ T → T ≤ 32 → (get_or (get_or lines n []) (T - 1) 0 ≡ n * T) × (get_or page (32 * n + T - 1) 0 ≡ n * T)
unfolding page
both n T l a b =
    let e = eqb-true (length lines) 128 (and_right (lines_right 0 lines) _ page-right) in
    let q : 0 + n ≡ n = omega arith in
    rw q at (in_lines 0 lines (and_left (lines_right 0 lines) _ page-right) n (omega arith) T a b)

pub page-rule : (n T : ℕ) → n < 128 → 1 ≤ T → T ≤ 32 → get_or page (32 * n + T - 1) 0 ≡ n * T
page-rule n T l a b = (both n T l a b).1

-- ---- where a row starts

pub start_is : (n T : ℕ) → n < 128 → 1 ≤ T → T ≤ 32 → row_start n T ≡ n * T
unfolding row_start on_page
start_is n T l a b = rw (lt-ltb n 128 l, le-leb 1 T a, le-leb T 32 b)

pub one-there : (n T : ℕ) → n < 128 → 1 ≤ T → T ≤ 32 → get_or (get_or lines n []) (T - 1) 0 ≡ row_start n T
one-there n T l a b = (both n T l a b).0 ∙ sym (start_is n T l a b)

pub none-there : (n T : ℕ) → (n < 128 → 1 ≤ T → T ≤ 32 → ⊥) → 0 ≡ row_start n T
unfolding row_start on_page
none-there n T h =
    by_test (ltb n 128 && (leb 1 T && leb T 32))
    (λ e. let t = and_right (ltb n 128) _ e in absurd (h (ltb-true n 128 (and_left (ltb n 128) _ e)) (leb-true 1 T (and_left (leb 1 T) _ t)) (leb-true T 32 (and_right (leb 1 T) _ t))))
    (λ e. rw e)
