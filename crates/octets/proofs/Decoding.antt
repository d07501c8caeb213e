-- How much of a file is handed on, the turns of the decoding, and that a file is read as its cut is.
use Rattle.scan.proofs.Basics.{ℕ, ◌+◌, ◌*◌, ◌/◌, ◌%◌, ◌≤◌, ◌<◌, add-one, arith, ◌≡◌, sym, ap, ◌∙◌, true, false, not, leb, eqb, List, length, get_or, take, set, length-take}
use lib.ListN.{get_or-eq_default}
use lib.Seq.{get_or-take, take_all, take-append_seam}
use Rattle.scan.proofs.Tests.{leb-true, leb-false, le-leb, lt-leb, by_test}
use Rattle.scan.specs.Scan.{tabulate}
use Rattle.scan.specs.Placed.{placed}
use Rattle.scan.proofs.Placed.{placed_one, placed-length, placed-front}
use Rattle.scan.proofs.Tabulate.{tabulate-length, tabulate-at, tabulate-ext, take-tabulate}
use Rattle.octets.specs.Words.{word_from, word_at, is_long, is_ragged, word_count, words_of, cut, decoded, ReadAsCut, all_words}

module _ (most : ℕ) (bytes : List ℕ) where
  -- ---- how much is handed on

  pub long-read : most ≤ length bytes / 4 → (most ≡ word_count most bytes) × (false ≡ is_ragged most bytes)
  unfolding is_long is_ragged word_count
  long-read l = let e : leb (4 * most) (length bytes) ≡ true = le-leb (4 * most) (length bytes) (omega arith) in (rw e, rw e)

  pub short-read : length bytes / 4 < most → (length bytes / 4 ≡ word_count most bytes) × (not (eqb (length bytes % 4) 0) ≡ is_ragged most bytes)
  unfolding is_long is_ragged word_count
  short-read l = let e : leb (4 * most) (length bytes) ≡ false = lt-leb (4 * most) (length bytes) (omega arith) in (rw e, rw e)

  pub count_fits : (word_count most bytes ≤ most) × (4 * word_count most bytes ≤ length bytes)
  unfolding is_long word_count
  count_fits =
      by_test (leb (4 * most) (length bytes)) (λ e. let l : 4 * most ≤ length bytes = leb-true _ _ e in rw e (omega arith, omega arith))
      (λ e. let l : length bytes < 4 * most = leb-false _ _ e in rw e (omega arith, omega arith))

  pub words-length : length (words_of most bytes) ≡ word_count most bytes
  unfolding words_of
  words-length = tabulate-length (word_at bytes) (word_count most bytes)

  -- ---- a file is read as its cut is

  -- a longer file: the words that are handed on lie in the cut
  cut_word : (i : ℕ) → i < most → word_at (cut most bytes) i ≡ word_at bytes i
  unfolding word_at word_from cut
  cut_word i l =
      rw (
        get_or-take (4 * most) bytes (4 * i) 0 (omega arith),
        get_or-take (4 * most) bytes (4 * i + 1) 0 (omega arith),
        get_or-take (4 * most) bytes (4 * i + 2) 0 (omega arith),
        get_or-take (4 * most) bytes (4 * i + 3) 0 (omega arith),
      )

  read-long : 4 * most ≤ length bytes → ReadAsCut most bytes
  unfolding is_long is_ragged word_count words_of all_words
  read-long l =
      let e : leb (4 * most) (length bytes) ≡ true = le-leb (4 * most) (length bytes) l in
      let long : length (cut most bytes) ≡ 4 * most = unfold cut in (length-take (4 * most) bytes ∙ omega arith) in
      let q : leb (4 * most) (length (cut most bytes)) ≡ true = le-leb (4 * most) (length (cut most bytes)) (omega arith) in
      record {
        handed_on = rw e (sym (take-tabulate (word_at bytes) most (length bytes / 4) (omega arith)));
        words = rw (e, q) (tabulate-ext (word_at (cut most bytes)) (word_at bytes) most cut_word);
        ragged = rw (e, q);
      }

  -- another file is its own cut
  read_short : length bytes < 4 * most → ReadAsCut most bytes
  unfolding cut is_long word_count words_of all_words
  read_short l =
      let e : take (4 * most) bytes ≡ bytes = take_all (4 * most) bytes (omega arith) in
      let q : leb (4 * most) (length bytes) ≡ false = lt-leb (4 * most) (length bytes) l in
      let k = tabulate-length (word_at bytes) (length bytes / 4) in
      record {
        handed_on = rw q (sym (take_all most (tabulate (word_at bytes) (length bytes / 4)) (omega arith)));
        words = rw e;
        ragged = rw e;
      }

  pub read-as-cut : ReadAsCut most bytes
  read-as-cut = by_test (leb (4 * most) (length bytes)) (λ e. read-long (leb-true _ _ e)) (λ e. read_short (leb-false _ _ e))

-- ---- one word

module _ (bytes : List ℕ) where
  pub words_count : length (all_words bytes) ≡ length bytes / 4
  unfolding all_words
  words_count = tabulate-length (word_at bytes) (length bytes / 4)

  pub word-past : (i : ℕ) → length bytes / 4 ≤ i → 0 ≡ get_or (all_words bytes) i 0
  word-past i l = sym (get_or-eq_default (all_words bytes) 0 {n = i} (omega (arith, words_count)))

  pub word-there : (i t : ℕ) → i < length bytes / 4 → t ≡ word_from bytes (4 * i) → t ≡ get_or (all_words bytes) i 0
  unfolding all_words word_at
  word-there i t l e = e ∙ sym (tabulate-at (word_at bytes) 0 (length bytes / 4) i l)

-- ---- the turns of the decoding

-- one more value of f in front of a list
pub front-more : (f : ℕ → ℕ) (i : ℕ) (out : List ℕ) → set (placed out 0 (tabulate f i)) i (f i) ≡ placed out 0 (tabulate f (i + 1))
unfolding tabulate
front-more f i out = let q : 0 + length (tabulate f i) ≡ i = omega (arith, tabulate-length f i) in rw add-one (rw q at (placed_one (tabulate f i) out 0 (f i)))

-- ---- what a decoding leaves

module _ (bytes out : List ℕ) where
  pub decoded-is : placed out 0 (words_of (length out) bytes) ≡ decoded bytes out
  unfolding decoded
  decoded-is =
      let w = words-length (length out) bytes in
      rw (← w) (placed-front (words_of (length out) bytes) out (omega (arith, count_fits (length out) bytes)))

  -- the words stand in front
  words-front : take (word_count (length out) bytes) (decoded bytes out) ≡ words_of (length out) bytes
  unfolding decoded
  words-front = rw (← (words-length (length out) bytes)) (take-append_seam (words_of (length out) bytes) _)

module _ (bytes out : List ℕ) (k : ℕ) (out' : List ℕ) (h : k ≡ word_count (length out) bytes) (w : out' ≡ decoded bytes out) where
  pub words-fit : k ≤ length out'
  words-fit =
      let e : length out' ≡ length out = ap (length {A = ℕ}) (w ∙ sym (decoded-is bytes out)) ∙ placed-length _ out 0 in
      let f = count_fits (length out) bytes in
      omega arith

  pub words_are : take k out' ≡ words_of (length out) bytes
  words_are = rw (h, w) (words-front bytes out)
